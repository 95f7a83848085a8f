use Rattle.std.proofs.Common.{arith}
use mathlib.Core.Logic.{∥∥₁_map}
use Rattle.slabs.specs.Slabs.{rows_of}
use Rattle.slabs.proofs.Ends.{listed_within, record_fits, class_is}
use Rattle.slabs.proofs.Telling.{span_sum, sound_described}
use Rattle.slabs.specs.declared.class.Stand.TheVariants.{Held}
use Rattle.slabs.proofs.slab.Slab.set_tag.Goals as goal

pub returns-clause-sound : goal.returns-clause-sound
returns-clause-sound c =
    let s = c.args.self.now in
    let i = c.args.i in
    let told = c.describe.ensures in
    let fits = record_fits s c.requires.sound i c.requires.held in
    let sum = span_sum (rows_of s) i in
    let within = listed_within s c.requires.sound i (omega (arith, c.requires.held)) in
    ∥∥₁_map c.requires.sound (sound_described s c.describe.new.self i _ _ c.args.tag told.described within
    (λ class held. rw (← class_is s c.requires.sound i class Held held) (omega (arith, c.row-row.ensures.key, c.row-row.ensures.block)))
    told.lists told.homes told.layout)
