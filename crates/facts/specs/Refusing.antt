-- The refusal of a fact that passes a limit of its summary.
use Rattle.std.specs.Prelude.{ℕ, cond, leb}
use Rattle.model.specs.Reading.{most_records}
use Rattle.model.specs.declared.Refusal.{Refusal}
use Rattle.model.specs.declared.Refusal.TheVariants as refusal
use Rattle.summary.specs.declared.Limit.{Limit}
use Rattle.summary.specs.declared.Limit.TheVariants as limit

-- the refusal where a line passes the limit of entries or of uses, so many records being there before it
unfoldable pub behind_records : ℕ → Refusal
behind_records records = cond (leb most_records records) refusal.FullRecords refusal.FullTriggers

-- the refusal where a fact passes a limit of its summary
unfoldable pub over_refusal : Limit → ℕ → Refusal
over_refusal limit.Names records = refusal.FullNames
over_refusal limit.Entries records = behind_records records
over_refusal limit.Uses records = behind_records records
