-- What a section that shares nothing comes to, whatever other threads do and whichever cells are used again.
use Rattle.std.specs.Prelude.{◌≡◌, ℕ, ◌+◌, ◌==◌, ◌||◌, not, Bool, true, List, Option, Some, None}
use Rattle.brc_script.specs.declared.script.Section.{Section}
use Rattle.brc_meaning.specs.Sections.{meaning}
use Rattle.law_means.specs.Fronts.{IsFront}

-- OutOfMemory, HeapFull, FrameFull, Busy and LedgerFull: what a machine wants for, and what a gate stops
abbrev pub is_the_machines : ℕ → Bool
is_the_machines number = (number == 1) || ((number == 2) || ((number == 3) || ((number == 4) || (number == 17))))

-- the section ended at its last line, or by a fault of its own
abbrev pub is_own_end : Option (ℕ × ℕ) → Bool
is_own_end None = true
is_own_end (Some fault) = not (is_the_machines fault.0)

module _ {A : Type 0} where
  -- The section prints its plain meaning: a front of it at least; and where no want and no gate stopped it, just that,
  -- with the fault that it means, if any.
  pub record Prints (section : Section A) (printed : List ℕ) (met : Option (ℕ × ℕ)) : Type 0 where
    pub front : IsFront printed (meaning section).lines
    pub lines : is_own_end met ≡ true → printed ≡ (meaning section).lines
    pub fault : is_own_end met ≡ true → met ≡ (meaning section).fault

  -- so, and its thread bore as many objects as the section makes
  pub record PrintsPlainly (section : Section A) (before after : ℕ) (printed : List ℕ)
      (met : Option (ℕ × ℕ)) : Type 0 where
    pub prints : Prints section printed met
    pub births : is_own_end met ≡ true → after ≡ before + (meaning section).made
