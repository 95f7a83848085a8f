-- One write after another.
use Rattle.std.proofs.Common.{◌≡◌, ℕ, ◌+◌, ◌-◌, ◌≤◌, List, [], ◌++◌, take, drop, sym, refl, ap, ◌∙◌, arith}
use Rattle.std.proofs.lemmas.List.{append_assoc, append-nil, length-append, drop-drop}
use Rattle.replies.specs.declared.output.Writer.{Writer}
use Rattle.replies.specs.Growth.{held, Wrote}

-- lists that agree from some place on agree from any later place on
later : (m n : ℕ) (xs ys : List ℕ) → m ≤ n → drop m xs ≡ drop m ys → drop n xs ≡ drop n ys
later m n xs ys h e =
    let split : n ≡ m + (n - m) = omega arith in
    ap (λ k. drop k xs) split ∙ sym (drop-drop (n - m) m xs) ∙ ap (drop (n - m)) e ∙ drop-drop (n - m) m ys ∙ sym (ap (λ k. drop k ys) split)

-- nothing is written yet
pub nothing : (u : Writer) → Wrote [] u u
nothing u =
    record {
      buffer = refl;
      size = refl;
      count = omega arith;
      written = sym (append-nil (take u.len (held u)));
      rest = refl;
    }

-- two writes are one write of both texts
pub both : {xs ys : List ℕ} {u v w : Writer} → Wrote xs u v → Wrote ys v w → Wrote (xs ++ ys) u w
both {xs} {ys} {u} {v} {w} p q =
    record {
      buffer = q.buffer ∙ p.buffer;
      size = q.size ∙ p.size;
      count = omega (arith, length-append xs ys, p.count, q.count);
      written = q.written ∙ ap (λ front. front ++ ys) p.written ∙ append_assoc (take u.len (held u)) xs ys;
      rest = q.rest ∙ later v.len w.len (held v) (held u) (omega (arith, q.count)) p.rest;
    }
