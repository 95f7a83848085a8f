-- Small replies, computed: the definitions say what is meant.
use Rattle.std.proofs.Common.{◌≡◌, true, false, [], ◌∷◌, ◌++◌, Some, codes, refl}
use Rattle.std.specs.Fmt.{digits}
use Rattle.replies.specs.declared.kinds.Text.TheVariants.{Done}
use Rattle.replies.specs.Reply.{Shown, Line, Values, Silent}
use Rattle.replies.specs.Render.{render, crlf}
use Rattle.replies.specs.Reading.{read_back}

abbrev one : Shown
one = record { key = codes "k"; flags = 7; block = 13 ∷ 10 ∷ 69 ∷ []; cas = 12 }

done : render (Line Done) ≡ 79 ∷ 75 ∷ 13 ∷ 10 ∷ []
done = refl

nothing : render (Values true []) ≡ 69 ∷ 78 ∷ 68 ∷ 13 ∷ 10 ∷ []
nothing = refl

with_cas : render (Values true (one ∷ [])) ≡ codes "VALUE k 7 3 12" ++ crlf ++ (13 ∷ 10 ∷ 69 ∷ []) ++ crlf ++ codes "END" ++ crlf
unfolding digits
with_cas = refl

plain : render (Values false (one ∷ [])) ≡ codes "VALUE k 7 3" ++ crlf ++ (13 ∷ 10 ∷ 69 ∷ []) ++ crlf ++ codes "END" ++ crlf
unfolding digits
plain = refl

-- data that looks like the end of a reply is read back by its length
abbrev looks_ended : Shown
looks_ended = record { key = codes "k"; flags = 7; block = crlf ++ codes "END" ++ crlf; cas = 12 }

read : read_back true (render (Values true (looks_ended ∷ one ∷ []))) ≡ Some (looks_ended ∷ one ∷ [])
unfolding digits
read = refl

quiet : render Silent ≡ []
quiet = refl
