-- `facts::add_fact` meets its contract.
use native.Mathlib.Omega.{arith}
use mathlib.Core.Path.{sym, ◌∙◌}
use Rattle.records.specs.Adding.{full}
use Rattle.summary.proofs.Answering.{limited_done}
use Rattle.records.proofs.Funs.{untouched}
use Rattle.facts.proofs.Facts.{fact_asked, fact_puttable, fact_repeated, fact_crowded, fact_over, over_past, fact_added, fact_past}
use Rattle.facts.proofs.add_fact.Goals as goal

pub returns-then-k-gt-MOST_NAMES : goal.returns-then-k-gt-MOST_NAMES
returns-then-k-gt-MOST_NAMES c = record { «record» = full c.if-k-gt-MOST_NAMES.true; past = untouched }

pub overflow_add-name : goal.overflow_add-name
overflow_add-name c =
    let (st, known) = c.requires.0 c.if-k-gt-MOST_NAMES.false in
    omega (arith, st.tables.name_table.room, st.tables.name_table.few, known)

pub at-requires : goal.at-requires
at-requires c =
    let (st, known) = c.requires.0 c.if-k-gt-MOST_NAMES.false in
    omega (arith, st.tables.name_table.room, st.tables.name_table.few, known)

pub returns-then-at-gt0 : goal.returns-then-at-gt0
returns-then-at-gt0 c =
    let (st, known) = c.requires.0 c.if-k-gt-MOST_NAMES.false in
    record { «record» = fact_repeated st c.args.line known c.at.ensures c.args.flag c.args.group c.args.t (omega (arith, c.if-at-gt0.true)); past = untouched }

pub summarize_assumption-requires : goal.summarize_assumption-requires
summarize_assumption-requires c =
    let (st, known) = c.requires.0 c.if-k-gt-MOST_NAMES.false in
    fact_asked st known c.requires.1

pub returns-then-count-ge-MOST_RECORDS : goal.returns-then-count-ge-MOST_RECORDS
returns-then-count-ge-MOST_RECORDS c =
    let (st, known) = c.requires.0 c.if-k-gt-MOST_NAMES.false in
    let done = sym c.in-Ok.is ∙ c.summarize_assumption.ensures.answer _ st.hiding.excludes in
    let free = c.if-at-gt0.false in
    record { «record» = fact_crowded st c.args.line known c.at.ensures c.args.flag c.args.group c.args.t free done c.if-count-ge-MOST_RECORDS.true; past = over_past c.summarize_assumption.ensures.slices }

pub put_fact-requires : goal.put_fact-requires
put_fact-requires c =
    let (st, known) = c.requires.0 c.if-k-gt-MOST_NAMES.false in
    let done = sym c.in-Ok.is ∙ c.summarize_assumption.ensures.answer _ st.hiding.excludes in
    let filed-lists = c.summarize_assumption.ensures.sets _ st.hiding.excludes _ c.in-Ok.is in
    fact_puttable st known c.requires.1 done filed-lists c.summarize_assumption.ensures.slices c.if-count-ge-MOST_RECORDS.false c.requires.2 c.requires.3 c.requires.4

pub returns-else-count-ge-MOST_RECORDS : goal.returns-else-count-ge-MOST_RECORDS
returns-else-count-ge-MOST_RECORDS c =
    let (st, known) = c.requires.0 c.if-k-gt-MOST_NAMES.false in
    let done = sym c.in-Ok.is ∙ c.summarize_assumption.ensures.answer _ st.hiding.excludes in
    let filed-lists = c.summarize_assumption.ensures.sets _ st.hiding.excludes _ c.in-Ok.is in
    let slices = c.summarize_assumption.ensures.slices in
    let free = c.if-at-gt0.false in
    let room = c.if-count-ge-MOST_RECORDS.false in
    record {
      «record» = fact_added st c.args.line known c.at.ensures c.args.flag c.args.group c.args.t
          c.requires.1 free room done filed-lists slices c.put_fact.ensures;
      past = fact_past slices (limited_done _ done).2 (omega (arith, st.tables.name_table.few, known)) c.put_fact.ensures;
    }

pub returns-in-Err : goal.returns-in-Err
returns-in-Err c =
    let (st, known) = c.requires.0 c.if-k-gt-MOST_NAMES.false in
    let over = sym c.in-Err.is ∙ c.summarize_assumption.ensures.answer _ st.hiding.excludes in
    let free = c.if-at-gt0.false in
    record { «record» = fact_over st c.args.line known c.at.ensures c.args.flag c.args.group c.args.t free c.over_refusal.ensures over; past = over_past c.summarize_assumption.ensures.slices }
