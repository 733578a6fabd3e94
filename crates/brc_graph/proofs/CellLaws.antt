-- One more cell of a cycle, or none.
use Rattle.std.proofs.Common.{◌≡◌, ◌∙◌, ℕ, zero, suc, ◌+◌, ◌≤◌, List, [], ◌∷◌, ◌++◌, Option, Some, None, refl, sym, ap, add-one}
use Rattle.std.proofs.Common.{arith, Bor}
use Rattle.std.specs.Prelude.{MatchOption}
use Rattle.brc_text.specs.Tokens.{◌>>=◌}
use Rattle.brc_text.specs.Lines.{cut}
use Rattle.brc_text.proofs.KeywordLaws.{same_some}
use Rattle.brc_graph.specs.declared.cells.TheConstants.{HIGHEST_CELL}
use Rattle.brc_graph.specs.Operands.{within}
use Rattle.brc_graph.specs.Cells.{followed, cells_from}

-- what is found behind the space is what stands there

pub none_behind : (found : Option (Bor (List ℕ))) (behind : Option (List ℕ))
    → MatchOption found (behind ≡ None) (λ rest. behind ≡ Some rest.now) → found ≡ None → behind ≡ None
none_behind None behind h is = h
none_behind (Some rest) behind h is = absurd cc

pub some_behind : (found : Option (Bor (List ℕ))) (behind : Option (List ℕ)) (later : Bor (List ℕ))
    → MatchOption found (behind ≡ None) (λ rest. behind ≡ Some rest.now) → found ≡ Some later
    → behind ≡ Some later.now
some_behind None behind later h is = absurd cc
some_behind (Some rest) behind later h is = h ∙ ap (λ (r : Bor (List ℕ)). Some r.now) (same_some is)

-- what one turn does, by the cell that is read
by_cell : (left next : ℕ) (before bytes word : List ℕ) (cell : Option ℕ) → left ≡ next + 1 → word ≡ (cut 32 bytes).0
    → within 0 HIGHEST_CELL word ≡ cell
    → cells_from left before bytes
    ≡ (cell >>= λ c. followed (cells_from next) (before ++ c ∷ []) (cut 32 bytes).1)
unfolding cells_from
by_cell left next before bytes word cell one_less is reads =
    ap (λ (n : ℕ). cells_from n before bytes) (one_less ∙ add-one next)
    ∙ ap (λ (o : Option ℕ). o >>= λ c. followed (cells_from next) (before ++ c ∷ []) (cut 32 bytes).1)
    (ap (within 0 HIGHEST_CELL) (sym is) ∙ reads)

pub bad_cell : (left next : ℕ) (before bytes word : List ℕ) → left ≡ next + 1 → word ≡ (cut 32 bytes).0
    → within 0 HIGHEST_CELL word ≡ None
    → cells_from left before bytes ≡ None
bad_cell left next before bytes word one_less is reads = by_cell left next before bytes word None one_less is reads

pub last_cell : (left next : ℕ) (before bytes word : List ℕ) (cell : ℕ) → left ≡ next + 1 → word ≡ (cut 32 bytes).0
    → within 0 HIGHEST_CELL word ≡ Some cell → (cut 32 bytes).1 ≡ None
    → cells_from left before bytes ≡ Some (before ++ cell ∷ [])
last_cell left next before bytes word cell one_less is reads none =
    by_cell left next before bytes word (Some cell) one_less is reads
    ∙ ap (followed (cells_from next) (before ++ cell ∷ [])) none

pub next_cell : (left next : ℕ) (before bytes word rest : List ℕ) (cell : ℕ) → left ≡ next + 1
    → word ≡ (cut 32 bytes).0 → within 0 HIGHEST_CELL word ≡ Some cell → (cut 32 bytes).1 ≡ Some rest
    → cells_from left before bytes ≡ cells_from next (before ++ cell ∷ []) rest
next_cell left next before bytes word rest cell one_less is reads some =
    by_cell left next before bytes word (Some cell) one_less is reads
    ∙ ap (followed (cells_from next) (before ++ cell ∷ [])) some

pub no_cell : (left : ℕ) (before bytes : List ℕ) → left ≤ 0 → cells_from left before bytes ≡ None
unfolding cells_from
no_cell zero before bytes none = refl
no_cell (suc left) before bytes none = absurd (omega (arith, none))
