-- Maps that say the same, and the changes that keep them so.
use Rattle.std.proofs.Common.{ℕ, ◌∙◌, refl, ap, sym}
use Rattle.std.specs.Prelude.{◌==◌, ◌&&◌, ◌||◌, not}
use Rattle.brc_model.specs.declared.holder.Holder.{Holder}
use Rattle.brc_model.specs.Holders.{Map, Same, with_holder, without_holder, same_holder}

pub Same-refl : (m : Map) → Same m m
Same-refl m = record { live = λ c. refl; kind = λ c h. refl; entries = λ c. refl; held = λ c h. refl }

pub Same-trans : (a b c : Map) → Same a b → Same b c → Same a c
Same-trans a b c s t = record {
  live = λ d. s.live d ∙ t.live d;
  kind = λ d h. s.kind d h ∙ t.kind d (sym (s.live d) ∙ h);
  entries = λ d. s.entries d ∙ t.entries d;
  held = λ d h. s.held d h ∙ t.held d h;
}

pub Same-with : (a b : Map) (c : ℕ) (h : Holder) → Same a b
    → Same (record a { held = with_holder a.held c h }) (record b { held = with_holder b.held c h })
Same-with a b c h s = record {
  live = s.live;
  kind = s.kind;
  entries = s.entries;
  held = λ d g. ap (λ t. ((d == c) && same_holder g h) || t) (s.held d g);
}

pub Same-without : (a b : Map) (c : ℕ) (h : Holder) → Same a b
    → Same (record a { held = without_holder a.held c h }) (record b { held = without_holder b.held c h })
Same-without a b c h s = record {
  live = s.live;
  kind = s.kind;
  entries = s.entries;
  held = λ d g. ap (λ t. not ((d == c) && same_holder g h) && t) (s.held d g);
}
