use Rattle.std.proofs.Common.{◌≡◌, ℕ, ◌-◌, List, length, get_or, set, refl, ap, ◌∙◌, rules}
use Rattle.recency.specs.Numbers.{without}
use Rattle.slabs.specs.declared.class.ChunkList.{ChunkList}
use Rattle.slabs.specs.Rows.{RowsRead}
use Rattle.slabs.specs.Classes.{place, no_chunks}
use Rattle.slabs.proofs.Reading.{place_few, reads_as, written_at, written_off, homes_of_bare, rests_of_bare}
use Rattle.slabs.proofs.class.Class.leave.Goals as goal

pub unlink-requires : goal.unlink-requires
unlink-requires c = record { within = c.requires.within; inside = rw c.place.ensures c.requires.inside }

pub returns : goal.returns
returns c =
    let mid = c.unlink.new.rows in
    let end = c.set_home.new.rows in
    let told = c.unlink.ensures in
    let home = c.set_home.ensures in
    let rows = c.args.rows.now in
    let lists = c.args.self.now.lists in
    let p = place c.args.stand in
    let e : c.place.result ≡ p = c.place.ensures in
    let long : length lists ≡ 3 = search rules in
    let from : get_or lists c.place.result no_chunks ≡ get_or lists p no_chunks = ap (λ k. get_or lists k no_chunks) e in
    let written : ChunkList = record { list = c.unlink.new.self; count = (get_or lists c.place.result no_chunks).count - 1 } in
    let now_is = written_at lists c.place.result p 3 written no_chunks long e (place_few c.args.stand) in
    let was = λ (ids : List ℕ) (l : RowsRead (get_or lists p no_chunks).list rows ids). reads_as rows rows ids (ap (λ x. x.list) from) refl refl l in
    record {
      listed = λ ids l in'. reads_as mid end (without c.args.i ids) (ap (λ x. x.list) now_is) home.next home.prev (told.listed ids (was ids l) in');
      others = λ ids l in' other mine m apart. reads_as mid end mine refl home.next home.prev (told.others ids (was ids l) in' other mine m apart);
      counted = ap (λ x. x.count) now_is ∙ ap (λ x. x.count - 1) from;
      kept = λ k ne. written_off lists c.place.result p k written no_chunks e ne;
      frame = refl;
      homes = home.homes ∙ ap (λ hs. set hs c.args.i 0) (homes_of_bare rows mid told.rest);
      rests = home.rests ∙ rests_of_bare rows mid told.rest;
    }
