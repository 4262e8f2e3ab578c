-- `prune::list_records` meets its contract.
use native.Mathlib.Omega.{arith}
use borrow.Author.Tests.{not-true, not-false}
use Rattle.prune.proofs.Writing.{lists_length}
use Rattle.prune.proofs.Gathering.{few_facts, listed_facts, cleared_notes, facts_in, noted_notes, link_asks, decls_ask, listed_noted, follow_asks, sweep_asks, groups_ask, listed_followed}
use Rattle.prune.proofs.list_records.Goals as goal

pub list_facts-facts-requires : goal.list_facts-facts-requires
list_facts-facts-requires c =
    (c.requires.index, c.requires.notes.recorded.room, c.requires.notes.room, c.requires.notes.recorded.few, c.requires.few_facts)

pub shape_of-run-then-not-options : goal.shape_of-run-then-not-options
shape_of-run-then-not-options c =
    lists_length c.list_facts-facts.ensures

pub returns-then-not-options : goal.returns-then-not-options
returns-then-not-options c =
    listed_facts c.requires c.list_facts-facts.ensures (c.options_of-options.ensures.on _ _).prune_decls_is (not-true _ c.if-not-options.true)

pub clear-requires : goal.clear-requires
clear-requires c =
    omega (arith, c.requires.notes.room, lists_length c.list_facts-facts.ensures)

pub note_facts-requires : goal.note_facts-requires
note_facts-requires c = (
  cleared_notes c.requires c.list_facts-facts.ensures c.clear.ensures,
  few_facts c.requires c.list_facts-facts.ensures,
  facts_in c.requires c.list_facts-facts.ensures c.clear.ensures,
)

pub note_roots-stamps-requires : goal.note_roots-stamps-requires
note_roots-stamps-requires c = (
  noted_notes c.requires c.list_facts-facts.ensures c.clear.ensures c.note_facts.ensures,
  few_facts c.requires c.list_facts-facts.ensures,
  c.requires.asked,
)

pub link_names-requires : goal.link_names-requires
link_names-requires c =
    link_asks c.requires c.list_facts-facts.ensures c.clear.ensures c.note_facts.ensures
    c.note_roots-stamps.ensures.noted c.note_roots-stamps.ensures.stamps

pub list_decls-requires : goal.list_decls-requires
list_decls-requires c =
    decls_ask c.requires c.list_facts-facts.ensures c.clear.ensures c.note_facts.ensures
    c.note_roots-stamps.ensures.noted c.note_roots-stamps.ensures.stamps c.link_names.ensures
    (c.options_of-options.ensures.on _ _).prune_decls_is (not-false _ c.if-not-options.false) (c.options_of-options.ensures.on _ _).follow_bodies_is (not-true _ c.if-not-options-2.true)

pub shape_of-run-then-not-options-2 : goal.shape_of-run-then-not-options-2
shape_of-run-then-not-options-2 c =
    (listed_noted c.requires c.list_facts-facts.ensures c.clear.ensures c.note_facts.ensures
    c.note_roots-stamps.ensures.noted c.note_roots-stamps.ensures.stamps c.link_names.ensures
    (c.options_of-options.ensures.on _ _).prune_decls_is (not-false _ c.if-not-options.false) (c.options_of-options.ensures.on _ _).follow_bodies_is (not-true _ c.if-not-options-2.true)
    c.list_decls.ensures).same.same_length

pub returns-then-not-options-2 : goal.returns-then-not-options-2
returns-then-not-options-2 c =
    listed_noted c.requires c.list_facts-facts.ensures c.clear.ensures c.note_facts.ensures
    c.note_roots-stamps.ensures.noted c.note_roots-stamps.ensures.stamps c.link_names.ensures
    (c.options_of-options.ensures.on _ _).prune_decls_is (not-false _ c.if-not-options.false) (c.options_of-options.ensures.on _ _).follow_bodies_is (not-true _ c.if-not-options-2.true)
    c.list_decls.ensures

pub follow-requires : goal.follow-requires
follow-requires c =
    follow_asks c.requires c.list_facts-facts.ensures c.clear.ensures c.note_facts.ensures
    c.note_roots-stamps.ensures.noted c.note_roots-stamps.ensures.stamps c.link_names.ensures
    (c.options_of-options.ensures.on _ _).prune_decls_is (not-false _ c.if-not-options.false) (c.options_of-options.ensures.on _ _).follow_bodies_is (not-false _ c.if-not-options-2.false)

pub sweep_added-added-requires : goal.sweep_added-added-requires
sweep_added-added-requires c =
    sweep_asks c.requires c.list_facts-facts.ensures c.clear.ensures c.note_facts.ensures
    c.note_roots-stamps.ensures.noted c.note_roots-stamps.ensures.stamps c.link_names.ensures
    (c.options_of-options.ensures.on _ _).prune_decls_is (not-false _ c.if-not-options.false) (c.options_of-options.ensures.on _ _).follow_bodies_is (not-false _ c.if-not-options-2.false)
    c.follow.ensures

pub list_groups-requires : goal.list_groups-requires
list_groups-requires c =
    groups_ask c.requires c.list_facts-facts.ensures c.clear.ensures c.note_facts.ensures
    c.note_roots-stamps.ensures.noted c.note_roots-stamps.ensures.stamps c.link_names.ensures
    (c.options_of-options.ensures.on _ _).prune_decls_is (not-false _ c.if-not-options.false) (c.options_of-options.ensures.on _ _).follow_bodies_is (not-false _ c.if-not-options-2.false)
    c.follow.ensures c.sweep_added-added.ensures

pub shape_of-run : goal.shape_of-run
shape_of-run c =
    (listed_followed c.requires c.list_facts-facts.ensures c.clear.ensures c.note_facts.ensures
    c.note_roots-stamps.ensures.noted c.note_roots-stamps.ensures.stamps c.link_names.ensures
    (c.options_of-options.ensures.on _ _).prune_decls_is (not-false _ c.if-not-options.false) (c.options_of-options.ensures.on _ _).follow_bodies_is (not-false _ c.if-not-options-2.false)
    c.follow.ensures c.sweep_added-added.ensures c.list_groups.ensures).same.same_length

pub returns : goal.returns
returns c =
    listed_followed c.requires c.list_facts-facts.ensures c.clear.ensures c.note_facts.ensures
    c.note_roots-stamps.ensures.noted c.note_roots-stamps.ensures.stamps c.link_names.ensures
    (c.options_of-options.ensures.on _ _).prune_decls_is (not-false _ c.if-not-options.false) (c.options_of-options.ensures.on _ _).follow_bodies_is (not-false _ c.if-not-options-2.false)
    c.follow.ensures c.sweep_added-added.ensures c.list_groups.ensures
