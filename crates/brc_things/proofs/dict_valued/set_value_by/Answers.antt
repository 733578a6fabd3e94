use Rattle.std.proofs.Common.{◌≢◌, arith, refl, subst}
use Rattle.brc_count.specs.block.Payload.{kind_of}
use Rattle.brc_words.specs.declared.kind.Kind.TheVariants as kinds
use Rattle.brc_count.specs.block.Lent_Keys.{key_lent}
use Rattle.brc_things.specs.Seeking.{HasKeyAt}
use Rattle.brc_things.specs.Plain_Dicts.{plain_put}
use Rattle.brc_things.proofs.Shown.{entry_there, put_wrong}
use Rattle.brc_things.proofs.Locked.{stood, few_entries, refused_plainly}
use Rattle.brc_things.proofs.Valued_Plain.{there_within, dict_sets}
use Rattle.brc_things.proofs.Valued_Refusals.{putting_plainly}
use Rattle.brc_things.proofs.dict_valued.set_value_by.Goals as goal

pub overflow_cast-index : goal.overflow_cast-index
overflow_cast-index g c =
    let there = subst (λ p. HasKeyAt p (key_lent c.args.key) c.in-There.index c.in-There.entry) c.payload.ensures
    c.in-There.ensures in
    omega (
      arith,
      there_within c.args.block.1 c.in-There.index c.in-There.entry
          (entry_there c.args.block.1 (key_lent c.args.key) c.in-There.index c.in-There.entry there),
      few_entries c.args.frame.now c.args.block.1 c.requires.has.locked c.requires.has.found,
    )

pub returns-in-WrongKind-clause-refused : goal.returns-in-WrongKind-clause-refused
returns-in-WrongKind-clause-refused g c = λ before k since.
    putting_plainly before c.end_keep.new.self k c.args.value (plain_put {A = g.row.A.Denot} (key_lent c.args.key)) _ refl
    (λ entry. refused_plainly before c.args.frame.now c.end_keep.new.self k c.args.block
    (plain_put {A = g.row.A.Denot} (key_lent c.args.key) entry) _
    (stood before c.args.frame.now k c.args.block since) c.end_keep.ensures.ended
    (put_wrong (key_lent c.args.key) entry c.args.block.1 (subst (λ p. kind_of p ≢ kinds.Dict) c.payload.ensures
    c.in-WrongKind.ensures)))

pub returns-in-Ok-clause-put : goal.returns-in-Ok-clause-put
returns-in-Ok-clause-put g c =
    let there = subst (λ p. HasKeyAt p (key_lent c.args.key) c.in-There.index c.in-There.entry) c.payload.ensures
    c.in-There.ensures in
    c.in-Ok.ensures.swapped (plain_put {A = g.row.A.Denot} (key_lent c.args.key))
    (dict_sets (key_lent c.args.key) c.args.block.1 c.in-There.index c.in-There.entry there)

pub returns-in-Err-clause-refused : goal.returns-in-Err-clause-refused
returns-in-Err-clause-refused g c =
    let there = subst (λ p. HasKeyAt p (key_lent c.args.key) c.in-There.index c.in-There.entry) c.payload.ensures
    c.in-There.ensures in
    c.in-Err.ensures.refused (plain_put {A = g.row.A.Denot} (key_lent c.args.key))
    (dict_sets (key_lent c.args.key) c.args.block.1 c.in-There.index c.in-There.entry there)
