use Rattle.std.proofs.Common.{◌≡◌, ◌∙◌, ℕ, List, [], ◌∷◌, length, Bool, true, false, Option, refl, sym, ap, subst}
use Rattle.std.proofs.Common.{get_or, pos, w64, rules}
use Rattle.std.specs.Prelude.{unwrap_or, nat_lt, ◌&&◌, ◌||◌, not}
use Rattle.std.proofs.lemmas.List.{get_or_past}
use Rattle.std.proofs.lemmas.Bool.{ltb-false}
use Rattle.std.proofs.lemmas.Int.{to_z-of_z}
use Rattle.brc_words.specs.declared.kind.Kind.TheVariants as kinds
use Rattle.brc_words.specs.declared.owner.Owner.{Owner}
use Rattle.brc_words.specs.declared.owner.Owner.TheVariants as owners
use Rattle.brc_words.specs.declared.state.State.{State}
use Rattle.brc_words.specs.declared.state.State.TheVariants as states
use Rattle.law.specs.declared.world.cell.Cell.{Cell}
use Rattle.law.specs.world.Heap.{cell_at, is_immortal, no_cell}
use Rattle.law.specs.world.Holding.{lives_at, total_of}
use Rattle.law.specs.world.Steps.{is_merged}
use Rattle.brc_core.specs.Readings.{only_if, has_object}
use Rattle.brc_text.specs.declared.keyword.Keyword.{Keyword}
use Rattle.brc_text.specs.declared.keyword.Keyword.TheVariants as words
use Rattle.brc_text.specs.declared.token.Token.{Token}
use Rattle.brc_text.specs.declared.token.Token.TheVariants as tokens
use Rattle.brc_text.specs.Lines.{line}
use Rattle.brc_text.specs.Puts.{PutsText}
use Rattle.brc_trace.specs.Operands.{kind_word}
use Rattle.brc_trace.specs.Worlds.{object_line, owner_number, local_token, count_token, state_word}
use Rattle.brc_trace.proofs.world_text.put_object_line.Goals as goal

-- what is read where the test holds
read : {A : Type 0} (test : Bool) (x d r : A) (o : Option A) → test ≡ true → o ≡ only_if test x
    → r ≡ unwrap_or o d → r ≡ x
read true x d r o holds is taken = taken ∙ ap (λ p. unwrap_or p d) is
read false x d r o holds is taken = absurd cc

-- a live mortal cell has an object
either : (a b : Bool) → b ≡ true → (a || b) ≡ true
either true b h = refl
either false b h = h

-- past the last cell nobody owns
owner_read : (cells : List Cell) (c : ℕ) (inside : Bool) (r : Owner) (o : Option Owner)
    → nat_lt c (length cells) ≡ inside
    → o ≡ only_if inside (get_or cells c no_cell).owner → r ≡ unwrap_or o owners.Free
    → r ≡ (get_or cells c no_cell).owner
owner_read cells c true r o is read_is taken = taken ∙ ap (λ (p : Option Owner). unwrap_or p owners.Free) read_is
owner_read cells c false r o is read_is taken =
    taken ∙ ap (λ (p : Option Owner). unwrap_or p owners.Free) read_is
    ∙ sym (ap (λ (x : Cell). x.owner) (get_or_past cells c no_cell (ltb-false c (length cells) is)))

local_read : (state : State) (has : Bool) (x r : ℕ) (o : Option ℕ) → has ≡ true
    → o ≡ only_if (has && not (is_merged state)) x → r ≡ unwrap_or o 0
    → local_token state r ≡ local_token state x
local_read states.Default true x r o holds is taken = ap tokens.Number (taken ∙ ap (λ p. unwrap_or p 0) is)
local_read states.Queued true x r o holds is taken = ap tokens.Number (taken ∙ ap (λ p. unwrap_or p 0) is)
local_read states.Merged true x r o holds is taken = refl
local_read _ false x r o holds is taken = absurd cc

line_is : (c : ℕ) (x : Cell) (kind state : Keyword) (owner : ℕ) (local count total : Token)
    → kind ≡ kind_word x.kind → owner ≡ owner_number x.owner → local ≡ local_token x.state x.local
    → count ≡ count_token x.count
    → state ≡ state_word x.state → total ≡ count_token (total_of x)
    → line (tokens.Word words.Object ∷ tokens.Number c ∷ tokens.Word kind ∷ tokens.Number owner ∷ local ∷ count
    ∷ tokens.Word state ∷ total ∷ [])
    ≡ object_line c x
unfolding object_line
line_is c x kind state owner local count total k o l n s t = rw (k, o, l, n, s, t) refl

pub returns : goal.returns
returns g c =
    let h = c.args.world.now in
    let q = c.args.cell in
    let x = cell_at h q in
    let has : has_object h q ≡ true = either (is_immortal q) (lives_at h q) c.requires in
    let kind = read (has_object h q) x.kind kinds.Nothing c.unwrap_or-kind.result c.kind.result has c.kind.ensures
    c.unwrap_or-kind.ensures in
    let owner = owner_read h.cells q (nat_lt q (length h.cells)) c.unwrap_or-owner.result c.owner.result refl
    c.owner.ensures c.unwrap_or-owner.ensures in
    let count = read (has_object h q) x.count (pos 0) c.unwrap_or-count.result c.count.result has c.count.ensures
    c.unwrap_or-count.ensures in
    let state = read (has_object h q) x.state states.Default c.unwrap_or-state.result c.state.result has c.state.ensures
    c.unwrap_or-state.ensures in
    let total = read (lives_at h q) (total_of x) (pos 0) c.unwrap_or-total.result c.total.result c.requires
    c.total.ensures.total c.unwrap_or-total.ensures in
    let local = local_read x.state (has_object h q) x.local c.unwrap_or-local.result c.local.result has c.local.ensures
    c.unwrap_or-local.ensures in
    subst (PutsText (g.W.Write.contents c.args.writer.now) (g.W.Write.contents c.put_line.new.writer) c.put_line.result)
    (line_is q x c.word_of_kind.result c.word_of_state.result c.number_of_owner.result c.token_of_local.result
    c.token_of_count.result c.token_of_count-2.result
    (c.word_of_kind.ensures ∙ ap kind_word kind)
    (c.number_of_owner.ensures ∙ ap owner_number owner)
    (c.token_of_local.ensures ∙ ap (λ (s : State). local_token s c.unwrap_or-local.result) state ∙ local)
    (c.token_of_count.ensures ∙ ap count_token (to_z-of_z w64 c.unwrap_or-count.result (search rules) ∙ count))
    (c.word_of_state.ensures ∙ ap state_word state)
    (c.token_of_count-2.ensures ∙ ap count_token (to_z-of_z w64 c.unwrap_or-total.result (search rules) ∙ total)))
    c.put_line.ensures
