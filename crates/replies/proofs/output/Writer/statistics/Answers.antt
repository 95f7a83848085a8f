use Rattle.std.proofs.Common.{◌≡◌, ℕ, List, [], ◌∷◌, ◌++◌, codes, append_assoc, ap, subst}
use Rattle.std.specs.List.{flat_map}
use Rattle.std.proofs.lemmas.List.{append-nil}
use Rattle.replies.specs.Growth.{Wrote}
use Rattle.replies.specs.Render.{stat_line, end_line}
use Rattle.replies.proofs.Writes.{both}
use Rattle.replies.proofs.output.Writer.statistics.Goals as goal

abbrev named : List ℕ × ℕ → List ℕ
named f = stat_line f.0 f.1

-- the lines of fourteen figures, as the three groups of the statistics have them
grouped : {A : Type 0} (f : A → List ℕ) (a b c d e g h i j k l m n o : A)
    → flat_map f (a ∷ b ∷ c ∷ d ∷ e ∷ g ∷ h ∷ i ∷ j ∷ k ∷ l ∷ m ∷ n ∷ o ∷ [])
    ≡ (f a ++ f b ++ f c ++ f d) ++ (f e ++ f g ++ f h ++ f i ++ f j ++ f k) ++ (f l ++ f m ++ f n ++ f o)
grouped f a b c d e g h i j k l m n o = simp (append_assoc, append-nil)

pub returns : goal.returns
returns c =
    let f = c.args.figures.now in
    let W : List ℕ → Type 0 = λ bs. Wrote bs c.args.self.now c.end.new.self in
    let groups =
    grouped named (codes "limit_pages", f.limit_pages) (codes "free_pages", f.free_pages) (codes "curr_items", f.curr_items) (codes "total_items", f.total_items)
    (codes "replaced", f.«replaced») (codes "deleted", f.«deleted») (codes "flushed", f.«flushed») (codes "expired", f.«expired»)
    (codes "evictions", f.evictions) (codes "dropped", f.«dropped») (codes "get_hits", f.get_hits) (codes "get_misses", f.get_misses)
    (codes "curr_connections", f.curr_connections) (codes "hash_slots", f.hash_slots) in
    subst W (ap (λ lines. lines ++ end_line) groups) (both c.stats.ensures c.end.ensures.wrote)
