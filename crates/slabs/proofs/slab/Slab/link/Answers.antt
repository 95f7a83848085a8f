use Rattle.std.proofs.Common.{◌≡◌, ◌+◌, ◌<◌, ◌≤◌, length, get_or, set, sym, refl, ap, ◌∙◌, subst, arith}
use mathlib.Core.Logic.{∥∥₁_map}
use lib.ListN.{length-map}
use Rattle.std.proofs.lemmas.List.{get_or-set_same}
use Rattle.slabs.specs.declared.class.Stand.TheVariants.{Granted, Held}
use Rattle.slabs.specs.Layouts.{start, size_at, class_at}
use Rattle.slabs.specs.Lists.{held_of}
use Rattle.slabs.specs.Slabs.{rows_of, homes_of, layout}
use Rattle.slabs.specs.Records.{Written}
use Rattle.slabs.proofs.Ends.{class_is, listed_within, page_within, chunk_inside, size_of_class, chunk_there, record_fits, lie_apart}
use Rattle.slabs.proofs.Bytes.{chunk_kept}
use Rattle.slabs.proofs.Telling.{span_sum, key_len_there, data_len_there, sound_described, described_rests, record_kept, record_there}
use Rattle.slabs.proofs.slab.Slab.link.Goals as goal

pub write_record-requires : goal.write_record-requires
write_record-requires c =
    let s = c.args.self.now in
    let i = c.args.grant.row in
    let some : 0 < get_or (homes_of s) i 0 = omega (arith, c.requires.granted) in
    let inside = chunk_inside s c.requires.sound i some in
    let page = page_within s c.requires.sound i some in
    let size = size_of_class s c.requires.sound i c.args.grant.class Granted c.requires.granted in
    omega (arith, c.requires.fits, c.requires.memory, c.start-at.ensures)

pub overflow_cast-key : goal.overflow_cast-key
overflow_cast-key c =
    let s = c.args.self.now in
    let i = c.args.grant.row in
    let inside = chunk_inside s c.requires.sound i (omega (arith, c.requires.granted)) in
    let size = size_of_class s c.requires.sound i c.args.grant.class Granted c.requires.granted in
    omega (arith, c.requires.fits)

pub overflow_cast-block : goal.overflow_cast-block
overflow_cast-block c =
    let s = c.args.self.now in
    let i = c.args.grant.row in
    let inside = chunk_inside s c.requires.sound i (omega (arith, c.requires.granted)) in
    let size = size_of_class s c.requires.sound i c.args.grant.class Granted c.requires.granted in
    omega (arith, c.requires.fits)

pub shift-requires-clause-sound : goal.shift-requires-clause-sound
shift-requires-clause-sound c =
    let s = c.args.self.now in
    let i = c.args.grant.row in
    let told = c.describe.ensures in
    let within = listed_within s c.requires.sound i (omega (arith, c.requires.granted)) in
    ∥∥₁_map c.requires.sound (sound_described s c.describe.new.self i _ _ c.args.tag told.described within (λ class held. absurd (omega (arith, c.requires.granted))) told.lists told.homes told.layout)

pub shift-requires-clause-fits : goal.shift-requires-clause-fits
shift-requires-clause-fits c = λ _.
    let s = c.args.self.now in
    let m = c.describe.new.self in
    let i = c.args.grant.row in
    let key = length c.args.key.now in
    let block = length c.args.block.now in
    let told = c.describe.ensures in
    let within = listed_within s c.requires.sound i (omega (arith, c.requires.granted)) in
    let a = span_sum (rows_of m) i in
    let b = key_len_there (rows_of s) (rows_of m) i key block c.args.tag told.described within in
    let d = data_len_there (rows_of s) (rows_of m) i key block c.args.tag told.described within in
    let e = ap (λ l. get_or l.sizes c.args.grant.class 0) told.layout in
    omega (arith, c.requires.fits)

pub returns : goal.returns
returns c =
    let s = c.args.self.now in
    let m = c.describe.new.self in
    let t = c.shift.new.self in
    let i = c.args.grant.row in
    let class = c.args.grant.class in
    let key = c.args.key.now in
    let block = c.args.block.now in
    let memory = c.args.memory.now in
    let memory' = c.write_record.new.memory in
    let told = c.describe.ensures in
    let moved = c.shift.ensures in
    let within = listed_within s c.requires.sound i (omega (arith, c.requires.granted)) in
    let same = moved.shifted.layout ∙ told.layout in
    let described = described_rests (rows_of s) (rows_of m) (rows_of t) i (length key) (length block) c.args.tag moved.rests told.described in
    let written : Written memory memory' (start (layout s) i) key block = subst (λ at. Written memory memory' at key block) c.start-at.ensures c.write_record.ensures in
    let chunk = chunk_there s c.requires.sound i class Granted c.requires.granted in
    let fits : length key + length block ≤ size_at (layout s) i = omega (arith, c.requires.fits, size_of_class s c.requires.sound i class Granted c.requires.granted) in
    record {
      sound = moved.sound;
      row = refl;
      held =
          ap (λ hs. get_or hs i 0) (moved.shifted.homes ∙ ap (λ hs. set hs i (held_of class)) told.homes)
          ∙ get_or-set_same (homes_of s) i (held_of class) 0 (omega (arith, length-map (rows_of s) (λ r. r.home)))
          ∙ ap held_of (sym (ap (λ l. class_at l i) same ∙ class_is s c.requires.sound i class Granted c.requires.granted));
      linked =
          record {
            lists = λ ls f. moved.shifted.lists ls (told.lists ls f);
            homes = moved.shifted.homes ∙ ap (λ hs. set hs i (held_of class)) told.homes;
            layout = same;
          };
      described = described;
      written = written;
      told = record_there s t i c.args.tag memory memory' key block within same described written;
      chunks = λ j cj ne. chunk_kept (layout s) memory memory' i j key block (lie_apart s c.requires.sound j i cj chunk ne) fits written;
      others = λ j held.
          let ne : j ≡ i → ⊥ = λ e. omega (arith, c.requires.granted, held, ap (λ x. get_or (homes_of s) x 0) e) in
          let cj = chunk_there s c.requires.sound j _ Held held in
          record_kept s t i (length key) (length block) c.args.tag memory memory' same described j ne (record_fits s c.requires.sound j held)
          (chunk_kept (layout s) memory memory' i j key block (lie_apart s c.requires.sound j i cj chunk ne) fits written);
    }
