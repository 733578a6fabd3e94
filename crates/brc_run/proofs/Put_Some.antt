-- Texts put one after the other, of which it isn't said what they are.
use Rattle.std.proofs.Common.{ℕ, List, [], ◌++◌, Option, Result, Ok, refl}
use Rattle.brc_words.specs.declared.fault.Fault.{Fault}
use Rattle.brc_text.proofs.PutLaws.{starts}
use Rattle.brc_report.proofs.Writing.{second_puts}
use Rattle.brc_run.specs.Notes.{AppendsSome, PutsSome}

-- nothing is put
pub appends_none : (old : Option (List ℕ)) → AppendsSome old old
appends_none old = let at = starts old [] in (at.front, at.put)

pub puts_none : (old : Option (List ℕ)) → PutsSome old old (Ok tt)
puts_none old = appends_none old

-- some text is put, and then some more
pub puts_more : (old mid new : Option (List ℕ)) (result : Result (Unit {0}) Fault)
    → AppendsSome old mid → PutsSome mid new result → PutsSome old new result
puts_more old mid new result first second =
    (first.0 ++ second.0, second_puts old mid new result first.0 second.0 (first.0 ++ second.0) refl first.1 second.1)
