use Rattle.std.proofs.Common.{◌≢◌, arith, refl, subst}
use Rattle.brc_words.specs.declared.kind.Kind.TheVariants as kinds
use Rattle.brc_count.specs.block.Lent_Keys.{key_lent}
use Rattle.brc_count.specs.block.Payload.{kind_of}
use Rattle.brc_things.specs.Plain_Dicts.{plain_find, plain_put}
use Rattle.brc_things.specs.Seeking.{HasKeyAt, IsAbsent}
use Rattle.brc_things.proofs.Locked.{stood, few_entries}
use Rattle.brc_things.proofs.Since_Law.{ok_by, err_by}
use Rattle.brc_things.proofs.Shown.{entry_there, find_there, find_absent, find_wrong}
use Rattle.brc_things.proofs.Still_Law.{swap_refused}
use Rattle.brc_things.proofs.Valued_Plain.{there_within, dict_sets}
use Rattle.brc_things.proofs.swap_if.dict_swap.Goals as goal

pub overflow_cast-index : goal.overflow_cast-index
overflow_cast-index g c =
    let there = subst (λ p. HasKeyAt p (key_lent c.args.key) c.in-There.index c.in-There.entry) c.payload.ensures
    c.in-There.ensures in
    omega (
      arith,
      there_within c.args.block.1 c.in-There.index c.in-There.entry
          (entry_there c.args.block.1 (key_lent c.args.key) c.in-There.index c.in-There.entry there),
      few_entries c.args.frame.now c.args.block.1 c.requires.has.locked c.requires.has.found,
    )

pub swap_entry_if-requires-clause-there : goal.swap_entry_if-requires-clause-there
swap_entry_if-requires-clause-there g c =
    let there = subst (λ p. HasKeyAt p (key_lent c.args.key) c.in-There.index c.in-There.entry) c.payload.ensures
    c.in-There.ensures in
    entry_there c.args.block.1 (key_lent c.args.key) c.in-There.index c.in-There.entry there

pub returns-in-There-clause-swapped : goal.returns-in-There-clause-swapped
returns-in-There-clause-swapped g c =
    let there = subst (λ p. HasKeyAt p (key_lent c.args.key) c.in-There.index c.in-There.entry) c.payload.ensures
    c.in-There.ensures in
    ok_by c.swap_entry_if.result c.swap_entry_if.ensures.swapped (λ did by.
    by (plain_find {A = g.row.A.Denot} (key_lent c.args.key)) (plain_put {A = g.row.A.Denot} (key_lent c.args.key))
    (find_there (key_lent c.args.key) c.args.block.1 c.in-There.index c.in-There.entry there)
    (dict_sets (key_lent c.args.key) c.args.block.1 c.in-There.index c.in-There.entry there))

pub returns-in-There-clause-refused : goal.returns-in-There-clause-refused
returns-in-There-clause-refused g c =
    let there = subst (λ p. HasKeyAt p (key_lent c.args.key) c.in-There.index c.in-There.entry) c.payload.ensures
    c.in-There.ensures in
    err_by c.swap_entry_if.result c.swap_entry_if.ensures.refused (λ handed by.
    by (plain_find {A = g.row.A.Denot} (key_lent c.args.key)) (plain_put {A = g.row.A.Denot} (key_lent c.args.key))
    (find_there (key_lent c.args.key) c.args.block.1 c.in-There.index c.in-There.entry there)
    (dict_sets (key_lent c.args.key) c.args.block.1 c.in-There.index c.in-There.entry there))

pub returns-in-Absent-clause-refused : goal.returns-in-Absent-clause-refused
returns-in-Absent-clause-refused g c = λ before k since.
    swap_refused before c.args.frame.now c.end_keep.new.self k c.args.block c.args.value c.args.expected
    (plain_find {A = g.row.A.Denot} (key_lent c.args.key)) (plain_put {A = g.row.A.Denot} (key_lent c.args.key)) _ refl
    (find_absent (key_lent c.args.key) c.args.block.1 (subst (λ p. IsAbsent p (key_lent c.args.key)) c.payload.ensures
    c.in-Absent.ensures))
    (stood before c.args.frame.now k c.args.block since) c.end_keep.ensures.ended

pub returns-in-WrongKind-clause-refused : goal.returns-in-WrongKind-clause-refused
returns-in-WrongKind-clause-refused g c = λ before k since.
    swap_refused before c.args.frame.now c.end_keep-in-WrongKind.new.self k c.args.block c.args.value c.args.expected
    (plain_find {A = g.row.A.Denot} (key_lent c.args.key)) (plain_put {A = g.row.A.Denot} (key_lent c.args.key)) _ refl
    (find_wrong (key_lent c.args.key) c.args.block.1 (subst (λ p. kind_of p ≢ kinds.Dict) c.payload.ensures
    c.in-WrongKind.ensures))
    (stood before c.args.frame.now k c.args.block since) c.end_keep-in-WrongKind.ensures.ended
