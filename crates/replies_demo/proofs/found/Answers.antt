use Rattle.std.proofs.Common.{◌≡◌, ℕ, ◌<◌, ◌≤◌, List, [], map, length, get_or, take, sym, ap, subst, arith, rules}
use Rattle.std.specs.List.{flat_map, AllByRecursion}
use Rattle.std.proofs.lemmas.List.{length-map, length-take, map_more, take-map, take_all, get_or-map}
use Rattle.std.proofs.ByRecursion.{All-get_or, All-take}
use Rattle.replies.specs.Reply.{Shown, Values}
use Rattle.replies.specs.Render.{value_lines}
use Rattle.replies.specs.Growth.{Room, Wrote}
use Rattle.replies.specs.Fair.{FairShown}
use Rattle.replies.proofs.Callers.{Fresh, room_value, room_end, as_given, values_none, values_more, values_all, replied}
use Rattle.replies.proofs.Fits.{every_reply_fits}
use Rattle.replies_demo.specs.declared.Item.{Item}
use Rattle.replies_demo.specs.Items.{shown_of}
use Rattle.replies_demo.proofs.found.Goals as goal

abbrev blank : Item
blank =
    record {
      key = record { ref_ptr = (0, 0); now = [] };
      flags = 0;
      «data» = record { ref_ptr = (0, 0); now = [] };
      cas = 0;
    }

-- of fair items each front is fair, and each item
front_fair : (items : List Item) (i : ℕ) → AllByRecursion FairShown (map shown_of items) → AllByRecursion FairShown (map shown_of (take i items))
front_fair items i fair = subst (AllByRecursion FairShown) (take-map shown_of i items) (All-take FairShown i (map shown_of items) fair)

item_fair : (items : List Item) (i : ℕ) → i < length items → AllByRecursion FairShown (map shown_of items) → FairShown (shown_of (get_or items i blank))
item_fair items i h fair =
    subst FairShown (get_or-map shown_of items i blank (shown_of blank) h)
    (All-get_or FairShown (map shown_of items) i (shown_of blank) (omega (arith, length-map items shown_of)) fair)

front_few : (items : List Item) (i : ℕ) → i ≤ length items → length (map shown_of (take i items)) ≡ i
front_few items i h = omega (arith, length-map (take i items) shown_of, length-take i items)

pub loop-item-init : goal.loop-item-init
loop-item-init c = values_none c.args.numbered c.new-writer.result

pub loop-item-preserved : goal.loop-item-preserved
loop-item-preserved c =
    let items = c.args.items.now in
    let i = c.loop-item.item-index in
    let W : List Shown → Type 0 = λ xs. Wrote (flat_map (value_lines c.args.numbered) xs) c.new-writer.result c.value.new.self in
    let item = shown_of (get_or items i blank) in
    let given = as_given c.args.numbered item c.then_some-cas.result c.then_some-cas.ensures in
    let one : Wrote (value_lines c.args.numbered item) c.loop-item.writer c.value.new.self = subst (λ bs. Wrote bs c.loop-item.writer c.value.new.self) given c.value.ensures in
    subst W (sym (map_more shown_of items i blank c.loop-item-test.true))
    (values_more c.args.numbered (map shown_of (take i items)) item c.loop-item.invariant one)

pub value-requires : goal.value-requires
value-requires c =
    let items = c.args.items.now in
    let i = c.loop-item.item-index in
    let fresh : Fresh c.new-writer.result = search rules in
    let fair = c.requires.fair.1 in
    let item = shown_of (get_or items i blank) in
    let given = as_given c.args.numbered item c.then_some-cas.result c.then_some-cas.ensures in
    subst (λ bs. Room bs c.loop-item.writer) (sym given)
    (room_value c.args.numbered (map shown_of (take i items)) item
    (omega (arith, c.requires.fair.0, length-map items shown_of, front_few items i c.loop-item.auto.item-index-end))
    (front_fair items i fair) (item_fair items i c.loop-item-test.true fair) fresh c.loop-item.invariant)

pub end-requires : goal.end-requires
end-requires c =
    let items = c.args.items.now in
    let i = c.loop-item.item-index in
    let fresh : Fresh c.new-writer.result = search rules in
    room_end c.args.numbered (map shown_of (take i items))
    (omega (arith, c.requires.fair.0, length-map items shown_of, front_few items i c.loop-item.auto.item-index-end))
    (front_fair items i c.requires.fair.1) fresh c.loop-item.invariant

pub returns : goal.returns
returns c =
    let items = c.args.items.now in
    let i = c.loop-item.item-index in
    let W : List Shown → Type 0 = λ xs. Wrote (flat_map (value_lines c.args.numbered) xs) c.new-writer.result c.loop-item.writer in
    let all : W (map shown_of items) = subst W (ap (map shown_of) (take_all i items c.loop-item-test.false)) c.loop-item.invariant in
    let whole = replied (Values c.args.numbered (map shown_of items)) c.new-writer.ensures.empty (values_all c.args.numbered (map shown_of items) all c.end.ensures.wrote) in
    let short = every_reply_fits (Values c.args.numbered (map shown_of items)) c.requires.fair in
    record { within = omega (arith, short, whole.count, c.len.ensures); replied = search rules }
