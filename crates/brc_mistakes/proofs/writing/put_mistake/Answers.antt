use Rattle.brc_mistakes.proofs.writing.put_mistake.Goals as goal

pub returns-in-Twice : goal.returns-in-Twice
returns-in-Twice g c = rw c.in-Twice.is c.put_twice.ensures

pub returns-in-BeforeSections : goal.returns-in-BeforeSections
returns-in-BeforeSections g c = rw c.in-BeforeSections.is c.put_bytes-in-BeforeSections.ensures

pub returns-in-SameName : goal.returns-in-SameName
returns-in-SameName g c = rw c.in-SameName.is c.put_word-in-SameName.ensures

pub returns-in-TooManySections : goal.returns-in-TooManySections
returns-in-TooManySections g c = rw c.in-TooManySections.is c.put_bytes-in-TooManySections.ensures

pub returns-in-NoRepeat : goal.returns-in-NoRepeat
returns-in-NoRepeat g c = rw c.in-NoRepeat.is c.put_bytes-in-NoRepeat.ensures

pub returns-in-NeverClosed : goal.returns-in-NeverClosed
returns-in-NeverClosed g c = rw c.in-NeverClosed.is c.put_bytes-in-NeverClosed.ensures

pub returns-in-NotClosedBefore : goal.returns-in-NotClosedBefore
returns-in-NotClosedBefore g c = rw c.in-NotClosedBefore.is c.put_not_closed.ensures
