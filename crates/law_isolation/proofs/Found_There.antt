-- What a locking finds in the cell of a register's handle: the object that the register refers to.
use Rattle.std.proofs.Common.{◌≡◌, ◌∙◌, refl, sym, ap, subst, ℕ, ◌+◌, ◌-◌, ◌<◌, ◌≤◌, ℤ, pos, negsuc, ◌-ℤ◌, Bool, true}
use Rattle.std.proofs.Common.{eqb, arith, List, Option, Some, None, Ok, get_or}
use Rattle.std.proofs.lemmas.Int.{ints}
use Rattle.std.proofs.lemmas.Bool.{and_parts, ne_eqb, cond-false}
use Rattle.brc_words.specs.declared.limits.TheConstants.{GLOBALS}
use Rattle.brc_count.specs.law.declared.rule.contents.Contents.{Contents}
use Rattle.brc_count.specs.law.declared.rule.contents.Contents.TheVariants as contents
use Rattle.brc_count.specs.law.declared.rule.told.LogItem.{LogItem}
use Rattle.brc_count.specs.law.rule.Logs.{opening_contents}
use Rattle.brc_count.specs.Frames.{FrameSeen, HandleSeen}
use Rattle.brc_count.specs.Locking.{cell_in}
use Rattle.brc_handles.specs.Handles.{slot}
use Rattle.brc_meaning.specs.declared.reference.Reference.{Reference}
use Rattle.brc_meaning.specs.declared.reference.Reference.TheVariants as references
use Rattle.brc_meaning.specs.declared.object.Object.{Object}
use Rattle.brc_meaning.specs.declared.object.Object.TheVariants as objects
use Rattle.brc_meaning.specs.declared.state.State.{State}
use Rattle.brc_meaning.specs.Objects.{is_small}
use Rattle.brc_meaning.specs.States.{held, meant}
use Rattle.brc_meaning.specs.Wholes.{Each}
use Rattle.brc_plain.specs.Outcomes.{or_fault}
use Rattle.brc_words.specs.declared.fault.Fault.TheVariants as faults
use Rattle.std.proofs.lemmas.Option.{same_Some}
use Rattle.brc_count.specs.law.payloads.Payloads.{payloads_of, FindsOwn}
use Rattle.law_isolation.specs.Means.{cell_of_small, cell_meant, contents_meant, IsMeant, HasAt, HeldAs, ShowsState}

-- ---- the integers that are there always

-- such a cell lies below the globals, and has the integer
abbrev IsSmallCell : ℤ → ℕ → Type 0
IsSmallCell number c = (c < GLOBALS) × (opening_contents c ≡ contents.Int number)

opens_with : (c : ℕ) (number : ℤ) → 3 ≤ c → c < GLOBALS → pos c -ℤ pos 8 ≡ number → IsSmallCell number c
opens_with c number low high is = (
  high,
  cond-false (eqb c 0) _ _ (ne_eqb c 0 (λ e. omega (arith, e, low)))
      ∙ cond-false (eqb c 1) _ _ (ne_eqb c 1 (λ e. omega (arith, e, low)))
      ∙ cond-false (eqb c 2) _ _ (ne_eqb c 2 (λ e. omega (arith, e, low)))
      ∙ cond-false (eqb c GLOBALS) _ _ (ne_eqb c GLOBALS (λ e. omega (arith, e, high)))
      ∙ ap contents.Int is,
)

at_most : (n : ℕ) → is_small (pos n) ≡ true → n ≤ 256
at_most n is = grind (arith, ints, and_parts)

at_least : (n : ℕ) → is_small (negsuc n) ≡ true → n ≤ 4
at_least n is = grind (arith, ints, and_parts)

small_opens : (number : ℤ) → is_small number ≡ true → IsSmallCell number (cell_of_small number)
small_opens (pos n) is =
    let high : n ≤ 256 = at_most n is in
    opens_with (n + 8) (pos n) (omega arith) (omega (arith, high)) (omega (arith, ints))
small_opens (negsuc n) is =
    let high : n ≤ 4 = at_least n is in
    opens_with (7 - n) (negsuc n) (omega (arith, high)) (omega arith) (omega (arith, ints, high))

-- ---- what is found

-- a register that has a handle refers to what the handle's place has
has_reference : (n : ℕ) (log : List LogItem) (cells : ℕ → ℕ) (part : ℕ → Bool) (h : HandleSeen) (o : Option HandleSeen)
    (q : Option Reference)
    → o ≡ Some h → HeldAs n log cells part o q → (reference : Reference) × (q ≡ Some reference) × HasAt n log cells part
    h.place reference
has_reference n log cells part h None q is has = absurd (let bad : None ≡ Some h = is in cc)
has_reference n log cells part h (Some g) None is has = absurd has
has_reference n log cells part h (Some g) (Some reference) is has =
    (reference, refl, subst (λ (x : HandleSeen). HasAt n log cells part x.place reference) (same_Some g h is) has)

module _ {A : Type 0} where
  -- the register refers to the object that was found in the cell
  pub record FoundAs (cells : ℕ → ℕ) (part : ℕ → Bool) (s : State A) (container cell : ℕ)
      (found : Contents) : Type 0 where
    pub reference : Reference
    pub refers : held container s.registers ≡ Ok reference
    pub is_meant : IsMeant part reference
    pub cell_is : cell ≡ cell_meant cells reference
    pub object : Object A
    pub stands : meant reference s.objects ≡ Some object
    pub found_is : found ≡ contents_meant cells object
    pub leads : Each (IsMeant part) object

  module _ (base : ℕ) (cells : ℕ → ℕ) (part : ℕ → Bool) (frame : FrameSeen A) (registers : List (Option HandleSeen))
      (s : State A) (shows : ShowsState base cells part frame registers s)
      (container : ℕ) (h : HandleSeen) (in_register : slot registers container ≡ Some h) (cell : ℕ) (found : Contents)
      (of_place : cell_in frame h.place ≡ Some cell)
      (finds : FindsOwn frame.heap.cells frame.seat.log cell found) where
    found_at : (reference : Reference) → held container s.registers ≡ Ok reference → IsMeant part reference
        → cell ≡ cell_meant cells reference
        → FoundAs cells part s container cell found
    found_at (references.Small number) refers is_meant cell_is =
        let opens : IsSmallCell number (cell_of_small number) = small_opens number is_meant in
        record {
          reference = references.Small number;
          refers = refers;
          is_meant = is_meant;
          cell_is = cell_is;
          object = objects.Int number;
          stands = refl;
          found_is = finds.small (subst (λ c. c < GLOBALS) (sym cell_is) opens.0) ∙ ap opening_contents cell_is
              ∙ opens.1;
          leads = tt;
        }
    found_at (references.Object place) refers is_meant cell_is =
        let at = shows.lives.there place is_meant in
        record {
          reference = references.Object place;
          refers = refers;
          is_meant = is_meant;
          cell_is = cell_is;
          object = at.object;
          stands = at.stands;
          found_is = finds.private (contents_meant cells at.object)
              (ap (payloads_of frame.heap.cells frame.seat.log) cell_is ∙ at.payload);
          leads = at.leads;
        }

    -- what was found in the cell of a register's place is the object that the register refers to
    pub found_as : FoundAs cells part s container cell found
    found_as =
        let there = has_reference frame.heap.cells frame.seat.log cells part h (slot registers container)
        (get_or s.registers container None) in_register (shows.held container) in
        found_at there.0 (ap (or_fault faults.NoSuchPlace) there.1) there.2.meant
        (same_Some cell (cell_meant cells there.0) (sym of_place ∙ there.2.cell))
