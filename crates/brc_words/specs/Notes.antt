-- Entries as cells with notes.
use Rattle.std.specs.Prelude.{ℕ, List, map}
use Rattle.brc_words.specs.declared.note.Note.{Note}
use Rattle.brc_words.specs.declared.entry.Entry.{Entry}

-- where nothing was noted
abbrev pub nothing : Note
nothing = record { label = 0; bits = 0 }

-- the cell's entry, with the note; and with none
abbrev pub noted : ℕ → Note → Entry
noted cell note = record { bits = note.bits; cell = cell; label = note.label }

abbrev pub bare : ℕ → Entry
bare cell = noted cell nothing

-- what is noted
abbrev pub note_in : Entry → Note
note_in entry = record { label = entry.label; bits = entry.bits }

-- the cells of entries
abbrev pub cells_of : List Entry → List ℕ
cells_of entries = map (λ (entry : Entry). entry.cell) entries
