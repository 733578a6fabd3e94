use Rattle.std.proofs.Common.{refl, subst, ℤ, w64}
use Rattle.std.proofs.lemmas.Int.{to_z-of_z}
use Rattle.std.specs.Prelude.{Err}
use Rattle.brc_words.specs.declared.key.Key.TheVariants as keys
use Rattle.brc_client.specs.Answers.{FindsOut}
use Rattle.brc_client.specs.Keyed.{PlaceOf}
use Rattle.brc_client.specs.declared.status.Status.TheVariants as statuses
use Rattle.brc_c.specs.Exports.{IsMade, HasLeft}
use Rattle.brc_c.proofs.Made.{works_at, left_at, same_at}
use Rattle.brc_c.proofs.keyed.brc_dict_place_int.Goals as goal

pub returns-in-Some-clause-does : goal.returns-in-Some-clause-does
returns-in-Some-clause-does c = record {
  answer = c.place.result;
  made = IsMade c.in-Some.client.now c.place.new.self
      (works_at _ _ _ c.in-Some.ensures.value c.as_mut.ensures.value) refl
      (subst (λ (number : ℤ). FindsOut (PlaceOf (keys.Int number)) c.args.dict c.in-Some.client.now c.place.new.self
      c.place.result) (to_z-of_z w64 c.args.key c.ranges.key)
      (record { looked = c.place.ensures.looked; keeps = c.place.ensures.keeps }));
  told = c.write.ensures.code;
  written = c.write.ensures.written;
}

pub returns-in-None-clause-does : goal.returns-in-None-clause-does
returns-in-None-clause-does c = record {
  answer = Err statuses.Gone;
  made = HasLeft (left_at _ _ c.in-None.ensures.value c.as_mut.ensures.value) (same_at _ _ c.as_mut.ensures.value) refl;
  told = c.gone.ensures;
  written = refl;
}
