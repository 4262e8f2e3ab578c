-- Change 14, in a case: record lines between term lines, and the same in the opposite sequence behind them. The lines and the order of
-- the ambients differ; the names, the visits and the rounds do not.
use Prim.Native.String.{String}
use mathlib.Core.Path.{◌≡◌, refl}
use mathlib.Core.List.Permᴰ
use mathlib.Core.List.{List, [], ◌∷◌}
use Rattle.model.specs.Lists.{keep}
use Rattle.model.specs.Lines.{lines}
use Rattle.demands.specs.Counts.{record_words, hide_words, is_word, begins}
use Rattle.demands.specs.Sequence.{moves, Rearranged}
use Rattle.demands.proofs.OrderCases.{file_of, answer, one_list}

between : List String
between =
    "ask,0,4" ∷ "free,p" ∷ "root,0,r,0" ∷ "free,q" ∷ "op,eq,0,1" ∷ "assume,a,0,2" ∷ "label,1" ∷ "assume,m,0,3" ∷ "assume,n,0,3" ∷ "op,eq,1,1"
    ∷ "assume,b,0,4" ∷ "fun,p" ∷ []

behind : List String
behind =
    "ask,0,4" ∷ "free,p" ∷ "free,q" ∷ "op,eq,0,1" ∷ "label,1" ∷ "op,eq,1,1" ∷ "fun,p" ∷ "assume,b,0,4" ∷ "assume,n,0,3" ∷ "assume,m,0,3"
    ∷ "assume,a,0,2" ∷ "root,0,r,0" ∷ []

-- the one is the other rearranged
rearranged : Rearranged (lines (file_of between)) (lines (file_of behind))
unfolding answer moves begins is_word record_words hide_words between behind
rearranged = record { fixed = refl; moved = Permᴰ.symm (Permᴰ.reverse (keep moves (lines (file_of between)))) }

-- facts a b, ambients n m, fun p
answer_between : answer between ≡ one_list (6 ∷ 11 ∷ 9 ∷ 8 ∷ 12 ∷ []) 4 3
unfolding answer between
answer_between = refl

-- facts a b, ambients m n, fun p
answer_behind : answer behind ≡ one_list (11 ∷ 8 ∷ 10 ∷ 9 ∷ 7 ∷ []) 4 3
unfolding answer behind
answer_behind = refl
