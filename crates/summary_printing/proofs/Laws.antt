-- What printing asks of the filled tables.
use Prim.Native.Nat.{ℕ, ◌<◌}
use native.Mathlib.Omega.{arith}
use mathlib.Core.Path.{◌≡◌}
use mathlib.Core.List.{List}
use Rattle.model.specs.declared.Counts.{Counts}
use Rattle.records.specs.Columns.{record_kind, assume_kind}
use Rattle.macros.specs.Macros.{Filled}
use Rattle.reader.specs.Lines.{TermsStand}
use Rattle.summary_printing.specs.Facts.{Listed, Printable}

module _ {file names recs lists : List ℕ} {k : Counts} {i : ℕ}
    (f : Filled file names recs lists k) (l : i < k.records) where
  -- the lists of a record can be printed
  listed : Listed file names recs lists k.names i
  listed =
      let entries = f.recorded.entries_in i l in
      let few_entries = f.recorded.few_entries in
      let size = f.stocked.filing.sized i l in
      record {
        table = f.table;
        record_room = f.recorded.room;
        list_room = f.recorded.lists_room;
        few = omega (arith, f.recorded.few);
        entries_from = omega arith;
        entries_to = omega arith;
        uses_to = omega (arith, f.recorded.uses_in i l, f.recorded.few_uses);
      }

  -- so can a fact, with its name and its term
  pub printable : {refs rows : List ℕ} → TermsStand refs rows recs k → record_kind recs i ≡ assume_kind
      → Printable file names refs rows recs lists k i
  printable s e = record {
    headed = record {
      record_room = f.recorded.room;
      few = omega (arith, f.recorded.few);
      told = (
        record { name_table = f.table; term_table = s.term_table },
        f.recorded.named_in i l (λ z. omega arith),
        s.termed i l e,
      );
    };
    listed = listed;
  }
