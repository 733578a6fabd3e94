-- The text of a script is read again as that script.
use Rattle.std.proofs.Common.{◌≡◌, ◌∙◌, ℕ, ◌+◌, ◌<◌, ◌≤◌, ◌++◌, ◌||◌, not, Bool, true, false, eqb, List, [], ◌∷◌}
use Rattle.std.proofs.Common.{length, map, Option, Some, None, Ok, refl, sym, ap, subst, append_assoc, length-append}
use Rattle.std.proofs.Common.{arith}
use Rattle.std.specs.List.{list_any, flat_map}
use Rattle.std.proofs.lemmas.List.{append-nil}
use Rattle.std.proofs.lemmas.Bool.{and_parts, lt-ltb, le-ltb}
use Rattle.brc_words.specs.declared.limits.TheConstants.{MOST_INPUT}
use Rattle.brc_text.specs.Tokens.{◌>>=◌}
use Rattle.brc_script.specs.declared.limits.TheConstants.{MOST_SECTIONS}
use Rattle.brc_script.specs.declared.first_word.FirstWord.{FirstWord}
use Rattle.brc_script.specs.declared.script.Piece.{Piece}
use Rattle.brc_script.specs.declared.script.Piece.TheVariants as piece
use Rattle.brc_script.specs.declared.script.Section.{Section}
use Rattle.brc_script.specs.declared.row.ScriptRow.{ScriptRow}
use Rattle.brc_script.specs.declared.row.ScriptRow.TheVariants as rows
use Rattle.brc_script.specs.declared.progress.Progress.{Progress}
use Rattle.brc_script.specs.Instructions.{NumberedLine}
use Rattle.brc_script.specs.Scripts.{IsScript}
use Rattle.brc_script.specs.Walks.{lines_of, starts_section, is_section, decided, or_later, is_closed, is_named, begin}
use Rattle.brc_script.specs.Walks.{open_repeat, close_repeat, add, taken, turn_at, onward, walk, nothing, finished}
use Rattle.brc_script.specs.Walks.{script_at}
use Rattle.brc_script.specs.Texts.{Says, IsNumbered, AreRows, said, piece_rows, section_rows, script_rows, are_new}
use Rattle.brc_script.specs.Texts.{IsTextOf}
use Rattle.brc_script.proofs.RowLaws.{decides_nothing}
use Rattle.brc_script.proofs.RowAgain.{row_again, opens_section, opens_end}

module _ {A : Type 0} where
  -- ---- rows that are the same

  abbrev tag : ScriptRow A → ℕ
  tag rows.Idle = 0
  tag (rows.Section name) = 1
  tag (rows.Repeat times) = 2
  tag rows.End = 3
  tag (rows.Does line) = 4

  abbrev first_tag : List (ScriptRow A) → ℕ
  first_tag [] = 5
  first_tag (row ∷ others) = tag row

  abbrev name_in : List ℕ → List (ScriptRow A) → List ℕ
  name_in other (rows.Section name ∷ others) = name
  name_in other _ = other

  abbrev times_in : ℕ → List (ScriptRow A) → ℕ
  times_in other (rows.Repeat times ∷ others) = times
  times_in other _ = other

  abbrev line_in : NumberedLine A → List (ScriptRow A) → NumberedLine A
  line_in other (rows.Does line ∷ others) = line
  line_in other _ = other

  abbrev behind : List (ScriptRow A) → List (ScriptRow A)
  behind [] = []
  behind (row ∷ others) = others

  differ : (xs ys : List (ScriptRow A)) → xs ≡ ys → (eqb (first_tag xs) (first_tag ys) ≡ false) → ⊥
  differ xs ys e h = let same : eqb (first_tag xs) (first_tag xs) ≡ false =
      ap (λ (l : List (ScriptRow A)). eqb (first_tag xs) (first_tag l)) e ∙ h in absurd (omega_same (first_tag xs) same)
    where
      omega_same : (n : ℕ) → eqb n n ≡ false → ⊥
      omega_same n h = grind (arith, h)

  -- ---- an open `repeat` is closed below

  abbrev in_repeat : List (NumberedLine A) → List (ScriptRow A) → List (ScriptRow A)
  in_repeat [] others = rows.End ∷ others
  in_repeat (line ∷ lines) others = rows.Does line ∷ in_repeat lines others

  closed_again : (number : ℕ) (lines : List (List ℕ)) (them : List (ScriptRow A)) (ls : List (NumberedLine A))
      (others : List (ScriptRow A)) → AreRows number lines them
      → said them ≡ in_repeat ls others → is_closed lines ≡ true
  unfolding is_closed
  closed_again number [] [] [] others tell e = absurd (differ [] (rows.End ∷ others) e refl)
  closed_again number [] [] (l ∷ ls) others tell e = absurd (differ [] (rows.Does l ∷ in_repeat ls others) e refl)
  closed_again number [] (row ∷ them) ls others tell e = absurd tell
  closed_again number (line ∷ lines) [] ls others tell e = absurd tell
  closed_again number (line ∷ lines) (rows.Idle ∷ them) ls others tell e =
      ap (λ (o : Option Bool). or_later o (is_closed lines))
      (decides_nothing {A = A} number line rows.Idle (row_again number line rows.Idle tell.0 tell.1) refl)
      ∙ closed_again (number + 1) lines them ls others tell.2 e
  closed_again number (line ∷ lines) (rows.Does k ∷ them) [] others tell e =
      absurd (differ (rows.Does k ∷ said them) (rows.End ∷ others) e refl)
  closed_again number (line ∷ lines) (rows.Does k ∷ them) (l ∷ ls) others tell e =
      ap (λ (o : Option Bool). or_later o (is_closed lines))
      (decides_nothing {A = A} number line (rows.Does k) (row_again number line (rows.Does k) tell.0 tell.1) refl)
      ∙ closed_again (number + 1) lines them ls others tell.2 (ap behind e)
  closed_again number (line ∷ lines) (rows.End ∷ them) ls others tell e =
      ap (λ (o : Option Bool). or_later o (is_closed lines)) (ap decided (opens_end line tell.0))
  closed_again number (line ∷ lines) (rows.Section name ∷ them) [] others tell e =
      absurd (differ (rows.Section name ∷ said them) (rows.End ∷ others) e refl)
  closed_again number (line ∷ lines) (rows.Section name ∷ them) (l ∷ ls) others tell e =
      absurd (differ (rows.Section name ∷ said them) (rows.Does l ∷ in_repeat ls others) e refl)
  closed_again number (line ∷ lines) (rows.Repeat times ∷ them) [] others tell e =
      absurd (differ (rows.Repeat times ∷ said them) (rows.End ∷ others) e refl)
  closed_again number (line ∷ lines) (rows.Repeat times ∷ them) (l ∷ ls) others tell e =
      absurd (differ (rows.Repeat times ∷ said them) (rows.Does l ∷ in_repeat ls others) e refl)

  -- ---- what is still to be said

  -- inside a `repeat` or not, the pieces of the section that are left, and the sections behind it
  abbrev left_rows : Option ℕ → List (NumberedLine A) → List (Piece A) → List (Section A) → List (ScriptRow A)
  left_rows None ls pieces sections = flat_map piece_rows pieces ++ script_rows sections
  left_rows (Some times) ls pieces sections = in_repeat ls (flat_map piece_rows pieces ++ script_rows sections)

  abbrev one_section : List ℕ → List (Piece A) → Section A
  one_section name pieces = record { name = name; pieces = pieces }

  -- the pieces of the section in the end
  abbrev all_pieces : List (Piece A) → Option ℕ → List (NumberedLine A) → List (NumberedLine A) → List (Piece A)
      → List (Piece A)
  all_pieces pieces None lines ls left = pieces ++ left
  all_pieces pieces (Some times) lines ls left = pieces ++ (piece.Repeat times (lines ++ ls) ∷ left)

  in_repeat_is : (ls : List (NumberedLine A)) (others : List (ScriptRow A))
      → map (λ line. rows.Does line) ls ++ (rows.End ∷ others) ≡ in_repeat ls others
  in_repeat_is [] others = refl
  in_repeat_is (l ∷ ls) others = ap (λ (x : List (ScriptRow A)). rows.Does l ∷ x) (in_repeat_is ls others)

  new_at : (before xs ys : List (Section A)) (s : Section A) → are_new before (xs ++ (s ∷ ys)) ≡ true
      → is_named s.name (before ++ xs) ≡ false
  new_at before [] ys s h = ap (is_named s.name) (append-nil before)
      ∙ of_not (is_named s.name before) (and_parts (not (is_named s.name before)) (are_new (before ++ s ∷ []) ys) h).0
    where
      of_not : (b : Bool) → not b ≡ true → b ≡ false
      of_not true h = absurd cc
      of_not false h = refl
  new_at before (first ∷ xs) ys s h =
      ap (is_named s.name) (sym (append_assoc before (first ∷ []) xs))
      ∙ new_at (before ++ first ∷ []) xs ys s
      (and_parts (not (is_named first.name before)) (are_new (before ++ first ∷ []) (xs ++ (s ∷ ys))) h).1

  -- one turn
  turned : (progress next : Progress A) (number : ℕ) (line : List ℕ) (lines : List (List ℕ)) (row : ScriptRow A)
      → Says line row → IsNumbered number row
      → taken progress row lines ≡ Some next → walk progress number (line ∷ lines) ≡ walk next (number + 1) lines
  unfolding walk turn_at
  turned progress next number line lines row says same takes =
      ap (λ (o : Option (ScriptRow A)). onward number (λ next. walk next (number + 1) lines)
      (o >>= λ row. taken progress row lines)) (row_again number line row says same)
      ∙ ap (onward number (λ next. walk next (number + 1) lines)) takes

  abbrev within : List (Section A) → List ℕ → List (Piece A) → Option ℕ → List (NumberedLine A) → Progress A
  within done name pieces times lines = record {
    done = done;
    name = Some name;
    pieces = pieces;
    times = times;
    lines = lines;
  }

  pub record Fine (target : List (Section A)) : Type 0 where
    pub names : are_new [] target ≡ true
    pub few : length target ≤ MOST_SECTIONS

  -- the next section begins
  begins : (done sections : List (Section A)) (name : List ℕ) (pieces : List (Piece A)) (s : Section A)
      (lines : List (NumberedLine A)) (target : List (Section A)) → Fine target
      → target ≡ done ++ (one_section name pieces ∷ (s ∷ sections))
      → begin (within done name pieces None lines) s.name ≡ Some
      (within (done ++ one_section name pieces ∷ []) s.name [] None [])
  unfolding begin
  begins done sections name pieces s lines target fine is =
      let so_far = done ++ one_section name pieces ∷ [] in
      let split : target ≡ so_far ++ (s ∷ sections) = is
      ∙ sym (append_assoc done (one_section name pieces ∷ []) (s ∷ sections)) in
      let room : length so_far < MOST_SECTIONS =
      omega (arith, fine.few, ap length split, length-append so_far (s ∷ sections)) in
      let new : is_named s.name so_far ≡ false = new_at [] so_far sections s
      (subst (λ (l : List (Section A)). are_new [] l ≡ true) split fine.names) in
      rw (lt-ltb (length so_far) MOST_SECTIONS room, new) refl

  opens : (done : List (Section A)) (name : List ℕ) (pieces : List (Piece A)) (times : ℕ)
      (lines : List (NumberedLine A)) (closed : Bool) → closed ≡ true
      → open_repeat (within done name pieces None lines) times closed ≡ Some (within done name pieces (Some times) [])
  unfolding open_repeat
  opens done name pieces times lines closed is = rw is refl

  adds : (done : List (Section A)) (name : List ℕ) (pieces : List (Piece A)) (line : NumberedLine A)
      (lines : List (NumberedLine A))
      → add (within done name pieces None lines) line ≡ Some
      (within done name (pieces ++ piece.One line ∷ []) None lines)
  unfolding add
  adds done name pieces line lines = refl

  adds_inside : (done : List (Section A)) (name : List ℕ) (pieces : List (Piece A)) (times : ℕ) (line : NumberedLine A)
      (lines : List (NumberedLine A))
      → add (within done name pieces (Some times) lines) line ≡ Some
      (within done name pieces (Some times) (lines ++ line ∷ []))
  unfolding add
  adds_inside done name pieces times line lines = refl

  closes : (done : List (Section A)) (name : List ℕ) (pieces : List (Piece A)) (times : ℕ)
      (lines : List (NumberedLine A))
      → close_repeat (within done name pieces (Some times) lines) ≡ Some
      (within done name (pieces ++ piece.Repeat times lines ∷ []) None [])
  unfolding close_repeat
  closes done name pieces times lines = refl

  walk_again : (number : ℕ) (lines : List (List ℕ)) (them : List (ScriptRow A)) (done : List (Section A))
      (name : List ℕ)
      (pieces : List (Piece A)) (times : Option ℕ)
      (ours ls : List (NumberedLine A)) (left : List (Piece A)) (sections target : List (Section A))
      → AreRows number lines them → said them ≡ left_rows times ls left sections → Fine target
      → target ≡ done ++ (one_section name (all_pieces pieces times ours ls left) ∷ sections)
      → finished (walk (within done name pieces times ours) number lines) ≡ Ok target
  unfolding walk
  walk_again number [] (row ∷ them) done name pieces times ours ls left sections target tell e fine is = absurd tell
  walk_again number (line ∷ lines) [] done name pieces times ours ls left sections target tell e fine is = absurd tell
  walk_again number [] [] done name pieces None ours ls [] [] target tell e fine is =
      ap (λ (l : List (Section A)). Ok l) (ap (λ (ps : List (Piece A)). done ++ (one_section name ps ∷ []))
      (sym (append-nil pieces)) ∙ sym is)
  walk_again number [] [] done name pieces None ours ls [] (s ∷ sections) target tell e fine is =
      absurd (differ [] (section_rows s ++ script_rows sections) e refl)
  walk_again number [] [] done name pieces None ours ls (piece.One k ∷ left) sections target tell e fine is =
      absurd (differ [] (rows.Does k ∷ (flat_map piece_rows left ++ script_rows sections)) e refl)
  walk_again number [] [] done name pieces None ours ls (piece.Repeat t ks ∷ left) sections target tell e fine is =
      absurd (differ [] (left_rows None ls (piece.Repeat t ks ∷ left) sections) e refl)
  walk_again number [] [] done name pieces (Some t) ours [] left sections target tell e fine is =
      absurd (differ [] (left_rows (Some t) [] left sections) e refl)
  walk_again number [] [] done name pieces (Some t) ours (l ∷ ls) left sections target tell e fine is =
      absurd (differ [] (left_rows (Some t) (l ∷ ls) left sections) e refl)
  walk_again number (line ∷ lines) (rows.Idle ∷ them) done name pieces times ours ls left sections target tell
      e fine is =
      ap finished (turned (within done name pieces times ours) (within done name pieces times ours) number line lines
      rows.Idle tell.0 tell.1 refl)
      ∙ walk_again (number + 1) lines them done name pieces times ours ls left sections target tell.2 e fine is
  walk_again number (line ∷ lines) ((rows.Section nm) ∷ them) done name pieces (Some t) ours [] left sections target
      tell e fine is =
      absurd (differ (rows.Section nm ∷ said them) (left_rows (Some t) [] left sections) e refl)
  walk_again number (line ∷ lines) ((rows.Section nm) ∷ them) done name pieces (Some t) ours (l ∷ ls) left sections
      target tell e fine is =
      absurd (differ (rows.Section nm ∷ said them) (left_rows (Some t) (l ∷ ls) left sections) e refl)
  walk_again number (line ∷ lines) ((rows.Section nm) ∷ them) done name pieces None ours ls []
      [] target tell e fine is =
      absurd (differ (rows.Section nm ∷ said them) (left_rows None ls [] []) e refl)
  walk_again number (line ∷ lines) ((rows.Section nm) ∷ them) done name pieces None ours ls []
      (s ∷ sections) target tell e fine is =
      let same : s.name ≡ nm = sym (ap (name_in nm) e) in
      let so_far = done ++ one_section name pieces ∷ [] in
      let split : target ≡ done ++ (one_section name pieces ∷ (s ∷ sections)) =
      is ∙ ap (λ (ps : List (Piece A)). done ++ (one_section name ps ∷ (s ∷ sections))) (append-nil pieces) in
      let begun = subst (λ (n : List ℕ). begin (within done name pieces None ours) n ≡ Some
      (within so_far n [] None [])) same (begins done sections name pieces s ours target fine split) in
      ap finished (turned (within done name pieces None ours) (within so_far nm [] None []) number line lines
      (rows.Section nm) tell.0 tell.1 begun)
      ∙ walk_again (number + 1) lines them so_far nm [] None [] [] s.pieces sections target tell.2 (ap behind e) fine
      (split ∙ ap (λ (n : List ℕ). done ++ (one_section name pieces ∷ (one_section n s.pieces ∷ sections))) same
      ∙ sym (append_assoc done (one_section name pieces ∷ []) (one_section nm s.pieces ∷ sections)))
  walk_again number (line ∷ lines) ((rows.Section nm) ∷ them) done name pieces None ours ls
      (piece.One k ∷ left) sections target tell e fine is =
      absurd (differ (rows.Section nm ∷ said them) (left_rows None ls (piece.One k ∷ left) sections) e refl)
  walk_again number (line ∷ lines) ((rows.Section nm) ∷ them) done name pieces None ours ls (piece.Repeat t ks ∷ left)
      sections target tell e fine is =
      absurd (differ (rows.Section nm ∷ said them) (left_rows None ls (piece.Repeat t ks ∷ left) sections) e refl)
  walk_again number (line ∷ lines) ((rows.Repeat u) ∷ them) done name pieces (Some t) ours [] left sections target tell
      e fine is =
      absurd (differ (rows.Repeat u ∷ said them) (left_rows (Some t) [] left sections) e refl)
  walk_again number (line ∷ lines) ((rows.Repeat u) ∷ them) done name pieces (Some t) ours (l ∷ ls) left sections target
      tell e fine is =
      absurd (differ (rows.Repeat u ∷ said them) (left_rows (Some t) (l ∷ ls) left sections) e refl)
  walk_again number (line ∷ lines) ((rows.Repeat u) ∷ them) done name pieces None ours ls [] [] target tell e fine is =
      absurd (differ (rows.Repeat u ∷ said them) (left_rows None ls [] []) e refl)
  walk_again number (line ∷ lines) ((rows.Repeat u) ∷ them) done name pieces None ours ls [] (s ∷ sections) target tell
      e fine is =
      absurd (differ (rows.Repeat u ∷ said them) (left_rows None ls [] (s ∷ sections)) e refl)
  walk_again number (line ∷ lines) ((rows.Repeat u) ∷ them) done name pieces None ours ls (piece.One k ∷ left) sections
      target tell e fine is =
      absurd (differ (rows.Repeat u ∷ said them) (left_rows None ls (piece.One k ∷ left) sections) e refl)
  walk_again number (line ∷ lines) ((rows.Repeat u) ∷ them) done name pieces None ours ls (piece.Repeat t ks ∷ left)
      sections target tell e fine is =
      let same : t ≡ u = sym (ap (times_in u) e) in
      let others = flat_map piece_rows left ++ script_rows sections in
      let inside : said them ≡ in_repeat ks others =
      ap behind e
      ∙ append_assoc (map (λ l. rows.Does l) ks ++ (rows.End ∷ [])) (flat_map piece_rows left) (script_rows sections)
      ∙ append_assoc (map (λ l. rows.Does l) ks) (rows.End ∷ []) others
      ∙ in_repeat_is ks others in
      ap finished (turned (within done name pieces None ours) (within done name pieces (Some u) []) number line lines
      (rows.Repeat u) tell.0 tell.1
      (opens done name pieces u ours (is_closed lines) (closed_again (number + 1) lines them ks others tell.2 inside)))
      ∙ walk_again (number + 1) lines them done name pieces (Some u) [] ks left sections target tell.2 inside fine
      (is ∙ ap (λ (n : ℕ). done ++ (one_section name (pieces ++ (piece.Repeat n ks ∷ left)) ∷ sections)) same)
  walk_again number (line ∷ lines) (rows.End ∷ them) done name pieces (Some t) ours [] left sections target tell
      e fine is =
      ap finished (turned (within done name pieces (Some t) ours)
      (within done name (pieces ++ piece.Repeat t ours ∷ []) None []) number line lines rows.End tell.0 tell.1
      (closes done name pieces t ours))
      ∙ walk_again (number + 1) lines them done name (pieces ++ piece.Repeat t ours ∷ []) None []
      [] left sections target tell.2 (ap behind e) fine
      (is ∙ ap (λ (l : List (NumberedLine A)). done ++ (one_section name (pieces ++ (piece.Repeat t l ∷ left))
      ∷ sections)) (append-nil ours)
      ∙ ap (λ (ps : List (Piece A)). done ++ (one_section name ps ∷ sections))
      (sym (append_assoc pieces (piece.Repeat t ours ∷ []) left)))
  walk_again number (line ∷ lines) (rows.End ∷ them) done name pieces (Some t) ours (l ∷ ls) left sections target tell
      e fine is =
      absurd (differ (rows.End ∷ said them) (left_rows (Some t) (l ∷ ls) left sections) e refl)
  walk_again number (line ∷ lines) (rows.End ∷ them) done name pieces None ours ls [] [] target tell e fine is =
      absurd (differ (rows.End ∷ said them) (left_rows None ls [] []) e refl)
  walk_again number (line ∷ lines) (rows.End ∷ them) done name pieces None ours ls [] (s ∷ sections) target tell
      e fine is =
      absurd (differ (rows.End ∷ said them) (left_rows None ls [] (s ∷ sections)) e refl)
  walk_again number (line ∷ lines) (rows.End ∷ them) done name pieces None ours ls (piece.One k ∷ left) sections target
      tell e fine is =
      absurd (differ (rows.End ∷ said them) (left_rows None ls (piece.One k ∷ left) sections) e refl)
  walk_again number (line ∷ lines) (rows.End ∷ them) done name pieces None ours ls (piece.Repeat t ks ∷ left) sections
      target tell e fine is =
      absurd (differ (rows.End ∷ said them) (left_rows None ls (piece.Repeat t ks ∷ left) sections) e refl)
  walk_again number (line ∷ lines) ((rows.Does k) ∷ them) done name pieces (Some t) ours [] left sections target tell
      e fine is =
      absurd (differ (rows.Does k ∷ said them) (left_rows (Some t) [] left sections) e refl)
  walk_again number (line ∷ lines) ((rows.Does k) ∷ them) done name pieces (Some t) ours (l ∷ ls) left sections target
      tell e fine is =
      let same : l ≡ k = sym (ap (line_in k) e) in
      ap finished (turned (within done name pieces (Some t) ours) (within done name pieces (Some t) (ours ++ k ∷ []))
      number line lines (rows.Does k) tell.0 tell.1
      (adds_inside done name pieces t k ours))
      ∙ walk_again (number + 1) lines them done name pieces (Some t) (ours ++ k ∷ []) ls left sections target tell.2
      (ap behind e) fine
      (is ∙ ap (λ (x : NumberedLine A). done ++ (one_section name (pieces ++ (piece.Repeat t (ours ++ (x ∷ ls)) ∷ left))
      ∷ sections)) same
      ∙ ap (λ (ls : List (NumberedLine A)). done ++ (one_section name (pieces ++ (piece.Repeat t ls ∷ left))
      ∷ sections)) (sym (append_assoc ours (k ∷ []) ls)))
  walk_again number (line ∷ lines) ((rows.Does k) ∷ them) done name pieces None ours ls [] [] target tell e fine is =
      absurd (differ (rows.Does k ∷ said them) (left_rows None ls [] []) e refl)
  walk_again number (line ∷ lines) ((rows.Does k) ∷ them) done name pieces None ours ls [] (s ∷ sections) target tell
      e fine is =
      absurd (differ (rows.Does k ∷ said them) (left_rows None ls [] (s ∷ sections)) e refl)
  walk_again number (line ∷ lines) ((rows.Does k) ∷ them) done name pieces None ours ls (piece.One l ∷ left) sections
      target tell e fine is =
      let same : l ≡ k = sym (ap (line_in k) e) in
      ap finished (turned (within done name pieces None ours) (within done name (pieces ++ piece.One k ∷ []) None ours)
      number line lines (rows.Does k) tell.0 tell.1
      (adds done name pieces k ours))
      ∙ walk_again (number + 1) lines them done name (pieces ++ piece.One k ∷ []) None ours ls left sections target
      tell.2 (ap behind e) fine
      (is ∙ ap (λ (x : NumberedLine A). done ++ (one_section name (pieces ++ (piece.One x ∷ left)) ∷ sections)) same
      ∙ ap (λ (ps : List (Piece A)). done ++ (one_section name ps ∷ sections))
      (sym (append_assoc pieces (piece.One k ∷ []) left)))
  walk_again number (line ∷ lines) ((rows.Does k) ∷ them) done name pieces None ours ls (piece.Repeat t ks ∷ left)
      sections target tell e fine is =
      absurd (differ (rows.Does k ∷ said them) (left_rows None ls (piece.Repeat t ks ∷ left) sections) e refl)

  -- ---- before the first section

  first_begins : (n : List ℕ) → begin {A = A} nothing n ≡ Some (within [] n [] None [])
  unfolding begin
  first_begins n = refl

  start_again : (number : ℕ) (lines : List (List ℕ)) (them : List (ScriptRow A)) (s : Section A)
      (sections : List (Section A))
      → AreRows number lines them → said them ≡ script_rows (s ∷ sections) → Fine (s ∷ sections)
      → (finished (walk nothing number lines) ≡ Ok (s ∷ sections)) × (list_any starts_section lines ≡ true)
  start_again number [] [] s sections tell e fine = absurd (differ [] (script_rows (s ∷ sections)) e refl)
  start_again number [] (row ∷ them) s sections tell e fine = absurd tell
  start_again number (line ∷ lines) [] s sections tell e fine = absurd tell
  start_again number (line ∷ lines) (rows.Idle ∷ them) s sections tell e fine =
      let others = start_again (number + 1) lines them s sections tell.2 e fine in (
        ap finished (turned nothing nothing number line lines rows.Idle tell.0 tell.1 refl) ∙ others.0,
        or_right (starts_section line) (list_any starts_section lines) others.1,
      )
    where
      or_right : (a b : Bool) → b ≡ true → (a || b) ≡ true
      or_right true b h = refl
      or_right false b h = h
  start_again number (line ∷ lines) (rows.Section nm ∷ them) s sections tell e fine =
      let same : s.name ≡ nm = sym (ap (name_in nm) e) in (
        ap finished (turned nothing (within [] nm [] None []) number line lines (rows.Section nm) tell.0 tell.1
            (first_begins nm))
            ∙ walk_again (number + 1) lines them [] nm [] None [] [] s.pieces sections (s ∷ sections) tell.2
            (ap behind e) fine
            (ap (λ (n : List ℕ). one_section n s.pieces ∷ sections) same),
        ap (λ (o : Option FirstWord). is_section o || list_any starts_section lines) (opens_section line nm tell.0.1),
      )
  start_again number (line ∷ lines) (rows.Repeat u ∷ them) s sections tell e fine =
      absurd (differ (rows.Repeat u ∷ said them) (script_rows (s ∷ sections)) e refl)
  start_again number (line ∷ lines) (rows.End ∷ them) s sections tell e fine =
      absurd (differ (rows.End ∷ said them) (script_rows (s ∷ sections)) e refl)
  start_again number (line ∷ lines) (rows.Does k ∷ them) s sections tell e fine =
      absurd (differ (rows.Does k ∷ said them) (script_rows (s ∷ sections)) e refl)

  -- what the text is of is read
  pub text_again : (text : List ℕ) (sections : List (Section A)) → IsTextOf text sections → IsScript sections
      → script_at text ≡ Ok sections
  unfolding script_at
  text_again text [] is script = absurd (omega (arith, script.some))
  text_again text (s ∷ sections) is script =
      let both = start_again 1 (lines_of text) is.rows s sections is.lines is.are
      (record { names = is.names; few = script.few }) in
      rw (le-ltb MOST_INPUT (length text) is.short, both.1) both.0
