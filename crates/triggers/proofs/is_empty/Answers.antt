-- `triggers::is_empty` meets its contract: a set that is gathered without room is empty.
use native.Mathlib.Omega.{arith}
use mathlib.Core.Path.{refl, ap, ◌∙◌}
use Rattle.std.specs.Option.{is_some}
use lib.ListN.{length}
use Rattle.triggers.proofs.Marked.{all_there}
use Rattle.triggers.proofs.Words.{asked_none, asked_more}
use Rattle.triggers.proofs.Grouping.{by_option, patterns_asks, empty_none, empty_more, single_asks, single_empty, single_full, single_none, single_some, tables_kept, tables_gathered}
use Rattle.triggers.proofs.is_empty.Goals as goal

pub pattern_groups-p-requires : goal.pattern_groups-p-requires
pattern_groups-p-requires c =
    patterns_asks c.requires.0 c.args.t c.requires.2

pub returns-then-p-eq0 : goal.returns-then-p-eq0
returns-then-p-eq0 c =
    let groups = c.pattern_groups-p.ensures.0 in
    let words = asked_none c.args.refs.now c.args.used c.args.many c.args.names.now c.args.rows.now c.args.lists.now c.args.t c.args.mark groups c.if-p-eq0.true in
    record { answer = λ exclude name d. empty_none c.requires.0 c.requires.2 groups c.if-p-eq0.true exclude name; tables = tables_kept _ _ _ c.requires.1.fresh; words = words }

pub shape_of-rows-then-p-eq0 : goal.shape_of-rows-then-p-eq0
shape_of-rows-then-p-eq0 c = refl

pub returns-then-p-ne1 : goal.returns-then-p-ne1
returns-then-p-ne1 c =
    let some = c.if-p-eq0.false in
    let all = all_there c.requires.0 c.requires.2 c.pattern_groups-p.ensures.0 some refl c.pattern_groups-p.ensures.2 in
    let words = asked_more c.args.refs.now c.args.used c.args.many c.args.names.now c.args.rows.now c.args.lists.now c.args.t c.args.mark c.pattern_groups-p.ensures.0 some
    c.if-p-ne1.true in
    record { answer = λ exclude name d. empty_more c.requires.0 c.requires.2 all some c.if-p-ne1.true exclude name; tables = tables_kept _ _ _ c.requires.1.fresh; words = words }

pub shape_of-rows-then-p-ne1 : goal.shape_of-rows-then-p-ne1
shape_of-rows-then-p-ne1 c = refl

pub overflow_cast-mark : goal.overflow_cast-mark
overflow_cast-mark c =
    omega (arith, c.requires.1.few_marks)

pub gather_list-requires : goal.gather_list-requires
gather_list-requires c =
    let all = all_there c.requires.0 c.requires.2 c.pattern_groups-p.ensures.0 c.if-p-eq0.false refl c.pattern_groups-p.ensures.2 in
    let asks = single_asks c.requires.0 c.requires.2 all c.if-p-ne1.false c.pattern_groups-p.ensures.1 in
    let opened = c.requires.1 in
    (c.requires.0, opened.name_room, asks.0, asks.1, asks.2, opened.fresh, omega arith, omega (arith, opened.low, opened.high))

pub returns : goal.returns
returns c =
    let one = c.if-p-ne1.false in
    let all = all_there c.requires.0 c.requires.2 c.pattern_groups-p.ensures.0 c.if-p-eq0.false refl c.pattern_groups-p.ensures.2 in
    let set = c.gather_list.ensures.set in
    let walk = c.gather_list.ensures.walk in
    let slices = c.gather_list.ensures.slices in
    let starts = c.pattern_groups-p.ensures.1 in
    by_option c.gather_list.result
    (λ n is. rw (c.is_some.ensures ∙ ap is_some is) (record {
      answer = λ exclude name d. single_empty c.requires.0 c.requires.2 all one starts exclude is (set exclude name d);
      tables = tables_gathered c.requires.1.fresh slices;
      words = single_none c.requires.0 c.requires.2 all one starts slices walk is;
    }))
    (λ is. rw (c.is_some.ensures ∙ ap is_some is) (record {
      answer = λ exclude name d. single_full c.requires.0 c.requires.2 all one starts exclude is (set exclude name d);
      tables = tables_gathered c.requires.1.fresh slices;
      words = single_some c.requires.0 c.requires.2 all one starts slices walk is;
    }))

pub shape_of-names : goal.shape_of-names
shape_of-names c = (returns c).tables.0.same_length

pub shape_of-rows : goal.shape_of-rows
shape_of-rows c = (returns c).tables.1.same_length

pub shape_of-lists : goal.shape_of-lists
shape_of-lists c = ap length (returns c).words.lists_words
