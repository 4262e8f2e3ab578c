-- Rows of three numbers, and the words that hold them until they are written.
use Rattle.std.specs.Prelude.{ℕ, zero, suc, ◌+◌, ◌*◌, ◌/◌, ◌%◌, List, [], ◌∷◌}
use Rattle.model.specs.declared.Row.{Row}

-- the number of a name and the third number of a row in one word
abbrev pub pair : ℕ → ℕ → ℕ
pair number cause = number * 65536 + cause

-- the row of two words: its line, and the other two in one
abbrev pub row : ℕ → ℕ → Row
row line word = record { line = line; number = word / 65536; cause = word % 65536 }

-- the rows in the first n pairs of words
unfoldable pub rows_held : ℕ → List ℕ → List Row
rows_held zero ws = []
rows_held (suc n) [] = []
rows_held (suc n) (line ∷ []) = []
rows_held (suc n) (line ∷ word ∷ ws) = row line word ∷ rows_held n ws

-- the words that hold rows
unfoldable pub words_of : List Row → List ℕ
words_of [] = []
words_of (r ∷ rs) = r.line ∷ pair r.number r.cause ∷ words_of rs
