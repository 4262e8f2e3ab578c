-- Document 01's limits and document 02's Change 1: what a state passes.
use Rattle.std.specs.Prelude.{◌+◌, ◌<◌, ◌⊎◌, length}
use Rattle.model.specs.Reading.{State}

-- which counts of the file up to a line pass their limits: "names .. 2,048 distinct"
abbrev pub PastNames : State → Type 0
PastNames s = 2048 < length s.names

-- "term lines 4,096; term references in term lines 16,384"
abbrev pub PastTerms : State → Type 0
PastTerms s = (4096 < length s.terms) ⊎ (16384 < s.references)

-- "record lines 1,024"; document 02, Change 6: "A hide line is a record line"
abbrev pub PastRecords : State → Type 0
PastRecords s = 1024 < length s.hidden + (length s.decls + length s.roots)

-- "trigger entries .. 2,048 ..; name uses .. 6,144"
abbrev pub PastTriggers : State → Type 0
PastTriggers s = (2048 < s.entries) ⊎ (6144 < s.uses)
