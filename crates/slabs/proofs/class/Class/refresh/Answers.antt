use Rattle.std.proofs.Common.{◌≡◌, ℕ, List, ◌∷◌, length, get_or, refl, ap, ◌∙◌, rules}
use Rattle.recency.specs.Numbers.{without}
use Rattle.slabs.specs.declared.class.ChunkList.{ChunkList}
use Rattle.slabs.specs.Rows.{RowsRead}
use Rattle.slabs.specs.Classes.{place, no_chunks}
use Rattle.slabs.proofs.Reading.{place_few, reads_as, written_at, written_off, homes_of_bare, rests_of_bare}
use Rattle.slabs.proofs.class.Class.refresh.Goals as goal

pub move_to_front-requires : goal.move_to_front-requires
move_to_front-requires c = record { within = c.requires.within; inside = rw c.place.ensures c.requires.inside }

pub returns : goal.returns
returns c =
    let end = c.move_to_front.new.rows in
    let told = c.move_to_front.ensures in
    let rows = c.args.rows.now in
    let lists = c.args.self.now.lists in
    let p = place c.args.stand in
    let e : c.place.result ≡ p = c.place.ensures in
    let long : length lists ≡ 3 = search rules in
    let from : get_or lists c.place.result no_chunks ≡ get_or lists p no_chunks = ap (λ k. get_or lists k no_chunks) e in
    let written : ChunkList = record { list = c.move_to_front.new.self; count = (get_or lists c.place.result no_chunks).count } in
    let now_is = written_at lists c.place.result p 3 written no_chunks long e (place_few c.args.stand) in
    let was = λ (ids : List ℕ) (l : RowsRead (get_or lists p no_chunks).list rows ids). reads_as rows rows ids (ap (λ x. x.list) from) refl refl l in
    record {
      listed = λ ids l in'. reads_as end end (c.args.i ∷ without c.args.i ids) (ap (λ x. x.list) now_is) refl refl (told.listed ids (was ids l) in');
      others = λ ids l. told.others ids (was ids l);
      counted = ap (λ x. x.count) now_is ∙ ap (λ x. x.count) from;
      kept = λ k ne. written_off lists c.place.result p k written no_chunks e ne;
      frame = refl;
      homes = homes_of_bare rows end told.rest;
      rests = rests_of_bare rows end told.rest;
    }
