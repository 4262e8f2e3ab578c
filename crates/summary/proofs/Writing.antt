-- Every word of the slices: what is filed, and the fact with its free names.
use Prim.Native.Nat.{ℕ, ◌+◌, ◌-◌}
use native.Mathlib.Omega.{arith}
use mathlib.Core.Path.{◌≡◌, refl}
use mathlib.Core.List.{List}
use Rattle.model.specs.declared.AsumKind.{AsumKind}
use Rattle.triggers.specs.Filings.{FilingState, filing, FilesAs, as_sets, as_full}
use Rattle.triggers.specs.declared.Filed.{Filed}
use Rattle.summary.specs.declared.Limit.{Limit}
use Rattle.summary.specs.declared.Sorted.{Sorted}
use Rattle.summary.specs.Steps.{sorted_of, SortsAs, as_kind, as_over, Finishes}
use Rattle.summary.specs.Writing.{file_uses, Written}
use Rattle.std.specs.Prelude.{Option, Result, Err}
use Rattle.summary.specs.Steps.{kind_sorted}
use Rattle.summary.specs.declared.Summary.{Summary}

-- filed sets, as a kind, write the words that filing them defines
pub files_sorts_as : {f : FilingState} {count mark at : ℕ} {names' rows' lists' : List ℕ} {x : Option Filed} {r : Result Sorted Limit} (named : ℕ)
    → FilesAs f count names' rows' lists' (mark + 1) at x → r ≡ sorted_of named x
    → SortsAs f names' rows' lists' mark at r
files_sorts_as {f} {count} {mark} {at} {names'} {rows'} {lists'} named w q = rw q (go w)
  where
    go : {x : Option Filed} → FilesAs f count names' rows' lists' (mark + 1) at x → SortsAs f names' rows' lists' mark at (sorted_of named x)
    go (as_sets {e = e} n s) = as_kind {e = e} s
    go (as_full s a b c) = as_over s a b c

-- a kind that files nothing changes no word
pub nothing_as : {names rows lists : List ℕ} {a : AsumKind} {mark at total : ℕ}
    → SortsAs (filing names rows lists (mark + 1) at) names rows lists mark at (kind_sorted a at total)
nothing_as {mark = mark} {at} = let z : mark + 1 + (at - at) ≡ mark + 1 = omega arith in as_kind {e = at} (rw z refl)

-- once a kind is filed, gathering the free names writes the words of `file_uses`
pub kind_written : {f : FilingState} {names refs rows lists names' rows' lists' : List ℕ} {named used many t mark at e total n uses : ℕ} {a : AsumKind} {r : Result Summary Limit}
    → SortsAs f names rows lists mark at (kind_sorted a e total) → n ≡ mark + 1 + (e - at)
    → Finishes names refs rows lists names' rows' lists' named total used many t a e n uses r
    → Written (file_uses refs used many uses f t) names' rows' lists'
unfolding file_uses
kind_written (as_kind s) q w = rw (s, ← q) (record { name_words = w.words_as.name_words; row_words = w.words_as.row_words; lists_words = w.words_as.lists_words })

-- past a limit nothing more is written: `file_uses` stays
pub over_written : {f : FilingState} {names rows lists : List ℕ} {mark at : ℕ} {l : Limit} (refs : List ℕ) (used many t uses : ℕ)
    → SortsAs f names rows lists mark at (Err l)
    → Written (file_uses refs used many uses f t) names rows lists
unfolding file_uses
over_written refs used many t uses (as_over s a b c) = rw s (record { name_words = a; row_words = b; lists_words = c })
