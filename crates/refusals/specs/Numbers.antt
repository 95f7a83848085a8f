-- The number of each refusal. When a refusal is given is said by the definitions of the calls that give it.
use Rattle.std.specs.Prelude.{ℕ}
use Rattle.refusals.specs.declared.Refusal.{Refusal}
use Rattle.refusals.specs.declared.Refusal.TheVariants.{Plan, Memory, PolicyDiffers, CallerTooLarge, CallerOpen, SessionsFull, CallerNotOpen, ReplyShort, NoLineEnd, Exhausted}

abbrev pub number_of : Refusal → ℕ
number_of Plan = 1
number_of Memory = 2
number_of PolicyDiffers = 3
number_of CallerTooLarge = 4
number_of CallerOpen = 5
number_of SessionsFull = 6
number_of CallerNotOpen = 7
number_of ReplyShort = 8
number_of NoLineEnd = 9
number_of Exhausted = 10
