use Rattle.std.proofs.Common.{◌≢◌, refl, subst}
use Rattle.brc_count.specs.block.Payload.{kind_of}
use Rattle.brc_words.specs.declared.kind.Kind.TheVariants as kinds
use Rattle.brc_count.specs.block.Lent_Keys.{key_lent}
use Rattle.brc_things.specs.Seeking.{HasKeyAt}
use Rattle.brc_things.specs.Plain_Dicts.{plain_put}
use Rattle.brc_things.proofs.Shown.{put_wrong}
use Rattle.brc_things.proofs.Locked.{stood, refused_plainly}
use Rattle.brc_things.proofs.Placed.{place_since}
use Rattle.brc_things.proofs.Valued_Refusals.{putting_plainly}
use Rattle.brc_things.proofs.dict_valued.put_new_by.Goals as goal

pub returns-in-There-clause-put : goal.returns-in-There-clause-put
returns-in-There-clause-put g c = λ before k since. (
  refl,
  (
    c.in-There.index,
    place_since before c.args.frame.now c.end_keep.new.self k c.in-There.index c.in-There.entry c.args.block
        (key_lent c.args.key) (stood before c.args.frame.now k c.args.block since) c.end_keep.ensures.ended
        (subst (λ p. HasKeyAt p (key_lent c.args.key) c.in-There.index c.in-There.entry) c.payload.ensures
        c.in-There.ensures),
  ),
)

pub returns-in-WrongKind-clause-refused : goal.returns-in-WrongKind-clause-refused
returns-in-WrongKind-clause-refused g c = λ before k since.
    putting_plainly before c.end_keep-in-WrongKind.new.self k c.args.value (plain_put {A = g.row.A.Denot} (key_lent c.args.key)) _ refl
    (λ entry. refused_plainly before c.args.frame.now c.end_keep-in-WrongKind.new.self k c.args.block
    (plain_put {A = g.row.A.Denot} (key_lent c.args.key) entry) _
    (stood before c.args.frame.now k c.args.block since) c.end_keep-in-WrongKind.ensures.ended
    (put_wrong (key_lent c.args.key) entry c.args.block.1 (subst (λ p. kind_of p ≢ kinds.Dict) c.payload.ensures
    c.in-WrongKind.ensures)))
