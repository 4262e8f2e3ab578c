-- `facts::put_fact` meets its contract.
use native.Mathlib.Omega.{arith}
use lib.ListN.{length-set}
use Rattle.facts.proofs.Chaining.{chained_taken}
use Rattle.facts.proofs.Coding.{small_as, rowed_as}
use Rattle.facts.proofs.put_fact.Goals as goal

pub code-word-requires : goal.code-word-requires
code-word-requires c = c.requires.small.small_code

pub overflow_add-names : goal.overflow_add-names
overflow_add-names c =
    omega (arith, c.requires.few, c.requires.known, c.requires.name_room)

pub overflow_cast-names : goal.overflow_cast-names
overflow_cast-names c =
    omega (arith, c.requires.few, c.requires.known, c.requires.name_room)

pub overflow_add-names-2 : goal.overflow_add-names-2
overflow_add-names-2 c =
    omega (arith, c.requires.few, c.requires.known, c.requires.name_room)

pub offset_bounds-names-name : goal.offset_bounds-names-name
offset_bounds-names-name c =
    omega (arith, c.requires.few, c.requires.known, c.requires.name_room)

pub bounds-names-name : goal.bounds-names-name
bounds-names-name c =
    omega (arith, c.requires.few, c.requires.known, c.requires.name_room)

pub with_record-next-requires : goal.with_record-next-requires
with_record-next-requires c = c.requires.few

pub put_record-requires : goal.put_record-requires
put_record-requires c =
    (c.requires.few, c.requires.record_room, small_as c.with_record-next.ensures c.code-word.ensures c.requires.small)

pub chain_entries-requires : goal.chain_entries-requires
chain_entries-requires c = (
  chained_taken _ _ c.requires.known c.requires.chained,
  c.requires.more,
  c.requires.few_entries,
  c.requires.few,
  simp length-set c.requires.name_room,
  c.requires.lists_room,
)

pub shape_of-recs : goal.shape_of-recs
shape_of-recs c =
    c.put_record.ensures.same_length

pub returns : goal.returns
returns c =
    record {
      counts = c.with_record-next.ensures;
      row = rowed_as c.code-word.ensures c.put_record.ensures;
      chains = c.chain_entries.ensures;
    }
