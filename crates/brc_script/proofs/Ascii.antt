-- Texts and names are ASCII.
use Rattle.std.proofs.Common.{◌≡◌, ℕ, zero, suc, ◌<◌, Bool, true, false, leb, List, [], ◌∷◌, length, refl, ◌&&◌, ◌||◌}
use Rattle.std.proofs.Common.{arith}
use Rattle.std.specs.Str.{IsAscii}
use Rattle.std.specs.List.{list_all}
use Rattle.std.proofs.lemmas.Bool.{and_parts, leb-true}
use Rattle.brc_script.specs.Rows.{is_plain, is_section_name}
use Rattle.brc_script.specs.Instructions.{is_printed, is_visible, is_text, is_name}

pub low_bytes : (p : ℕ → Bool) → ((b : ℕ) → p b ≡ true → b < 128) → (bs : List ℕ) → list_all p bs ≡ true → IsAscii bs
low_bytes p low [] h i = omega arith
low_bytes p low (b ∷ bs) h zero = low b (and_parts (p b) (list_all p bs) h).0
low_bytes p low (b ∷ bs) h (suc i) = low_bytes p low bs (and_parts (p b) (list_all p bs) h).1 i

pub printed_low : (bs : List ℕ) → list_all is_printed bs ≡ true → IsAscii bs
printed_low bs h = low_bytes is_printed
    (λ b t. omega (arith, leb-true b 126 (and_parts (leb 32 b) (leb b 126) t).1)) bs h

pub visible_low : (bs : List ℕ) → list_all is_visible bs ≡ true → IsAscii bs
visible_low bs h = low_bytes is_visible
    (λ b t. omega (arith, leb-true b 126 (and_parts (leb 33 b) (leb b 126) t).1)) bs h

pub text_low : (bs : List ℕ) → is_text bs ≡ true → IsAscii bs
unfolding is_text
text_low bs h = printed_low bs (and_parts (leb (length bs) 4096) (list_all is_printed bs) h).1

pub name_low : (bs : List ℕ) → is_name bs ≡ true → IsAscii bs
unfolding is_name
name_low bs h = visible_low bs (and_parts (leb 1 (length bs) && leb (length bs) 64) (list_all is_visible bs) h).1

plain_is_low : (b : ℕ) → is_plain b ≡ true → b < 128
plain_is_low b t = by_letter (leb 97 b && leb b 122) refl t
  where
    by_letter : (letter : Bool) → (leb 97 b && leb b 122) ≡ letter → (letter || (leb 48 b && leb b 57)) ≡ true → b < 128
    by_letter true is h = omega (arith, leb-true b 122 (and_parts (leb 97 b) (leb b 122) is).1)
    by_letter false is h = omega (arith, leb-true b 57 (and_parts (leb 48 b) (leb b 57) h).1)

pub section_name_low : (bs : List ℕ) → is_section_name bs ≡ true → IsAscii bs
unfolding is_section_name
section_name_low bs h = low_bytes is_plain plain_is_low bs
    (and_parts (leb 1 (length bs) && leb (length bs) 32) (list_all is_plain bs) h).1
