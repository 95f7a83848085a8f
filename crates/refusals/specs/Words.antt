-- What is said of each refusal: its number, and the rule that was not kept.
use Rattle.std.specs.Prelude.{ℕ, List, ◌++◌, codes}
use Rattle.std.specs.Fmt.{decimal}
use Rattle.refusals.specs.declared.Refusal.{Refusal}
use Rattle.refusals.specs.declared.Refusal.TheVariants.{Plan, Memory, PolicyDiffers, CallerTooLarge, CallerOpen, SessionsFull, CallerNotOpen, ReplyShort, NoLineEnd, Exhausted}
use Rattle.refusals.specs.Numbers.{number_of}

abbrev pub rule_of : Refusal → List ℕ
rule_of Plan = codes "first size a multiple of 8 from 48 to 1024, percent 110 to 200, at most 32 classes"
rule_of Memory = codes "a table has 1 to 256 pages"
rule_of PolicyDiffers = codes "a request has the policy that its table was opened with"
rule_of CallerTooLarge = codes "a caller's number is at most 4194303"
rule_of CallerOpen = codes "a caller has at most one open session"
rule_of SessionsFull = codes "at most 64 sessions are open"
rule_of CallerNotOpen = codes "a request is of a caller with an open session"
rule_of ReplyShort = codes "a reply buffer has at least 18432 bytes"
rule_of NoLineEnd = codes "a request has CR LF in its first 2048 bytes"
rule_of Exhausted = codes "a table answers at most 2^60 requests"

-- the whole message, with the number in decimal digits
abbrev pub refusal_text : Refusal → List ℕ
refusal_text refusal = codes "refused with number " ++ decimal (number_of refusal) ++ codes ": " ++ rule_of refusal
