-- What the lines so far said is what they have built up.
use Rattle.std.proofs.Common.{◌≡◌, ◌∙◌, ℕ, ◌+◌, ◌≤◌, ◌++◌, ◌&&◌, not, Bool, true, false, cond, ltb, List, [], ◌∷◌}
use Rattle.std.proofs.Common.{length, map, Option, Some, None, Result, Ok, Err, refl, sym, ap, subst, append_assoc, ◌⊎◌}
use Rattle.std.proofs.Common.{inl, inr}
use Rattle.std.specs.Prelude.{is_some}
use Rattle.std.specs.List.{list_any, flat_map}
use Rattle.std.proofs.lemmas.List.{append-nil, map-append}
use Rattle.std.proofs.lemmas.Grind.{flat_map-append}
use Rattle.std.proofs.lemmas.Bool.{and_parts, and_from, ltb-false}
use Rattle.std.proofs.lemmas.Option.{cond_some}
use Rattle.brc_words.specs.declared.limits.TheConstants.{MOST_INPUT}
use Rattle.brc_text.proofs.KeywordLaws.{same_some}
use Rattle.brc_text.proofs.TokenLaws.{some_bind}
use Rattle.brc_script.specs.declared.limits.TheConstants.{MOST_SECTIONS}
use Rattle.brc_script.specs.declared.script.Piece.{Piece}
use Rattle.brc_script.specs.declared.script.Piece.TheVariants as piece
use Rattle.brc_script.specs.declared.script.Section.{Section}
use Rattle.brc_script.specs.declared.row.ScriptRow.{ScriptRow}
use Rattle.brc_script.specs.declared.row.ScriptRow.TheVariants as rows
use Rattle.brc_script.specs.declared.progress.Progress.{Progress}
use Rattle.brc_script.specs.Instructions.{NumberedLine}
use Rattle.brc_script.specs.Rows.{row_at}
use Rattle.brc_script.specs.Walks.{lines_of, starts_section, or_later, is_closed, closed_by, sections_of, is_named}
use Rattle.brc_script.specs.Walks.{begin, open_repeat, close_by, close_repeat, add_by, add, taken, turn_at, onward}
use Rattle.brc_script.specs.Walks.{walk, nothing, finished, script_at}
use Rattle.brc_script.specs.Texts.{AreRows, said, piece_rows, section_rows, script_rows, are_new, IsTextOf}
use Rattle.brc_script.proofs.RowLaws.{frames, row_tells, decides_nothing}

same_ok : {X E : Type 0} {x y : X} → ◌≡◌ {A = Result X E} (Ok x) (Ok y) → x ≡ y
same_ok {X = X} {E = E} {x = x} {y = y} e = ap value e
  where
    value : Result X E → X
    value (Ok z) = z
    value (Err d) = x

is_none : (times : Option ℕ) → not (is_some times) ≡ true → times ≡ None
is_none None h = refl
is_none (Some times) h = absurd cc

not_true : (b : Bool) → not b ≡ true → b ≡ false
not_true true h = absurd cc
not_true false h = refl

is_open : (times : Option ℕ) → is_some times ≡ false → times ≡ None
is_open None h = refl
is_open (Some times) h = absurd cc

not_open : (b : Bool) → (b ≡ true → false ≡ true) → b ≡ false
not_open true h = absurd (let same = h refl in cc)
not_open false h = refl

module _ {A : Type 0} where
  -- what the section that is being read says, and the open `repeat` in it

  abbrev pub open_rows : Option (List ℕ) → List (Piece A) → List (ScriptRow A)
  open_rows None pieces = []
  open_rows (Some name) pieces = rows.Section name ∷ flat_map piece_rows pieces

  abbrev pub repeat_rows : Option ℕ → List (NumberedLine A) → List (ScriptRow A)
  repeat_rows None lines = []
  repeat_rows (Some times) lines = rows.Repeat times ∷ map (λ line. rows.Does line) lines

  abbrev pub built_by : List (Section A) → Option (List ℕ) → List (Piece A) → Option ℕ → List (NumberedLine A)
      → List (ScriptRow A)
  built_by done name pieces times lines = script_rows done ++ (open_rows name pieces ++ repeat_rows times lines)

  abbrev pub built : Progress A → List (ScriptRow A)
  built progress = built_by progress.done progress.name progress.pieces progress.times progress.lines

  closed_rows : (done : List (Section A)) (name : Option (List ℕ)) (pieces : List (Piece A))
      → script_rows (closed_by done name pieces) ≡ script_rows done ++ open_rows name pieces
  closed_rows done None pieces = sym (append-nil (script_rows done))
  closed_rows done (Some name) pieces =
      flat_map-append section_rows done (record { name = name; pieces = pieces } ∷ [])
      ∙ ap (λ (l : List (ScriptRow A)). script_rows done ++ l) (append-nil (open_rows (Some name) pieces))

  -- names

  new_appended : (before sections : List (Section A)) (section : Section A) → are_new before sections ≡ true
      → is_named section.name (before ++ sections) ≡ false
      → are_new before (sections ++ section ∷ []) ≡ true
  new_appended before [] section h new =
      and_from _ true (ap not (ap (is_named section.name) (sym (append-nil before)) ∙ new)) refl
  new_appended before (first ∷ sections) section h new =
      let both = and_parts (not (is_named first.name before)) (are_new (before ++ first ∷ []) sections) h in
      and_from _ _ both.0 (new_appended (before ++ first ∷ []) sections section both.1
      (ap (is_named section.name) (append_assoc before (first ∷ []) sections) ∙ new))

  -- the last section's pieces don't matter
  new_whatever : (before done : List (Section A)) (name : List ℕ) (pieces others : List (Piece A))
      → are_new before (done ++ record { name = name; pieces = pieces } ∷ []) ≡ true
      → are_new before (done ++ record { name = name; pieces = others } ∷ []) ≡ true
  new_whatever before [] name pieces others h = h
  new_whatever before (first ∷ done) name pieces others h =
      let both = and_parts (not (is_named first.name before))
      (are_new (before ++ first ∷ []) (done ++ record { name = name; pieces = pieces } ∷ [])) h in
      and_from _ _ both.0 (new_whatever (before ++ first ∷ []) done name pieces others both.1)

  new_pieces : (done : List (Section A)) (name : Option (List ℕ)) (pieces others : List (Piece A))
      → are_new [] (closed_by done name pieces) ≡ true → are_new [] (closed_by done name others) ≡ true
  new_pieces done None pieces others h = h
  new_pieces done (Some name) pieces others h = new_whatever [] done name pieces others h

  -- ---- one line

  -- an open `repeat` stands in a section, and names differ
  pub record IsSound (progress : Progress A) : Type 0 where
    pub inside : is_some progress.times ≡ true → is_some progress.name ≡ true
    pub names : are_new [] (sections_of progress) ≡ true

  pub record Steps (progress next : Progress A) (row : ScriptRow A) (later : List (List ℕ)) : Type 0 where
    pub are : built progress ++ said (row ∷ []) ≡ built next
    pub sound : IsSound next
    -- what a line opens is closed below, and a line that neither opens nor closes leaves it so
    pub closes : is_some next.times ≡ true
        → (is_closed later ≡ true) ⊎ ((frames row ≡ false) × (is_some progress.times ≡ true))

  -- the rows behind the section's
  more_pieces : (done : List (Section A)) (name : Option (List ℕ)) (pieces : List (Piece A)) (p : Piece A)
      → is_some name ≡ true
      → script_rows done ++ (open_rows name pieces ++ piece_rows p) ≡ script_rows done
      ++ (open_rows name (pieces ++ p ∷ []) ++ [])
  more_pieces done None pieces p h = absurd cc
  more_pieces done (Some name) pieces p h =
      ap (λ (l : List (ScriptRow A)). script_rows done ++ (rows.Section name ∷ l))
      (sym (append-nil (flat_map piece_rows (pieces ++ p ∷ [])) ∙ flat_map-append piece_rows pieces (p ∷ [])
      ∙ ap (λ (l : List (ScriptRow A)). flat_map piece_rows pieces ++ l) (append-nil (piece_rows p))))

  added : (progress next : Progress A) (times : Option ℕ) (line : NumberedLine A) (later : List (List ℕ))
      → progress.times ≡ times → IsSound progress
      → add_by progress times line ≡ Some next → Steps progress next (rows.Does line) later
  added progress next None line later is sound e =
      let parts = cond_some (is_some progress.name)
      (record progress { pieces = progress.pieces ++ piece.One line ∷ [] }) next e in
      subst (λ (p : Progress A). Steps progress p (rows.Does line) later) parts.1 (record {
        are = append_assoc (script_rows progress.done)
            (open_rows progress.name progress.pieces ++ repeat_rows progress.times progress.lines) (rows.Does line ∷ [])
            ∙ ap (λ (t : Option ℕ). script_rows progress.done
            ++ ((open_rows progress.name progress.pieces ++ repeat_rows t progress.lines) ++ (rows.Does line ∷ []))) is
            ∙ ap (λ (l : List (ScriptRow A)). script_rows progress.done ++ (l ++ (rows.Does line ∷ [])))
            (append-nil (open_rows progress.name progress.pieces))
            ∙ more_pieces progress.done progress.name progress.pieces (piece.One line) parts.0
            ∙ ap (λ (t : Option ℕ). script_rows progress.done
            ++ (open_rows progress.name (progress.pieces ++ piece.One line ∷ [])
            ++ repeat_rows t progress.lines)) (sym is);
        sound = record {
          inside = sound.inside;
          names = new_pieces progress.done progress.name progress.pieces
              (progress.pieces ++ piece.One line ∷ []) sound.names;
        };
        closes = λ still. inr (refl, still);
      })
  added progress next (Some times) line later is sound e =
      subst (λ (p : Progress A). Steps progress p (rows.Does line) later) (same_some e) (record {
        are = append_assoc (script_rows progress.done)
            (open_rows progress.name progress.pieces ++ repeat_rows progress.times progress.lines) (rows.Does line ∷ [])
            ∙ ap (λ (t : Option ℕ). script_rows progress.done
            ++ ((open_rows progress.name progress.pieces ++ repeat_rows t progress.lines) ++ (rows.Does line ∷ []))) is
            ∙ ap (λ (l : List (ScriptRow A)). script_rows progress.done ++ l)
            (append_assoc (open_rows progress.name progress.pieces) (repeat_rows (Some times) progress.lines)
            (rows.Does line ∷ []))
            ∙ ap (λ (l : List (ScriptRow A)). script_rows progress.done
            ++ (open_rows progress.name progress.pieces ++ (rows.Repeat times ∷ l)))
            (sym (map-append (λ l. rows.Does l) progress.lines (line ∷ [])))
            ∙ ap (λ (t : Option ℕ). script_rows progress.done
            ++ (open_rows progress.name progress.pieces ++ repeat_rows t (progress.lines ++ line ∷ []))) (sym is);
        sound = record { inside = sound.inside; names = sound.names };
        closes = λ still. inr (refl, still);
      })

  ended : (progress next : Progress A) (times : Option ℕ) (later : List (List ℕ)) → progress.times ≡ times
      → IsSound progress
      → close_by progress times ≡ Some next → Steps progress next rows.End later
  ended progress next None later is sound e = absurd cc
  ended progress next (Some times) later is sound e =
      let p = piece.Repeat times progress.lines in
      subst (λ (n : Progress A). Steps progress n rows.End later) (same_some e) (record {
        are = append_assoc (script_rows progress.done)
            (open_rows progress.name progress.pieces ++ repeat_rows progress.times progress.lines) (rows.End ∷ [])
            ∙ ap (λ (t : Option ℕ). script_rows progress.done
            ++ ((open_rows progress.name progress.pieces ++ repeat_rows t progress.lines) ++ (rows.End ∷ []))) is
            ∙ ap (λ (l : List (ScriptRow A)). script_rows progress.done ++ l)
            (append_assoc (open_rows progress.name progress.pieces) (repeat_rows (Some times) progress.lines)
            (rows.End ∷ []))
            ∙ more_pieces progress.done progress.name progress.pieces p
            (sound.inside (ap (λ (t : Option ℕ). is_some t) is));
        sound = record {
          inside = λ none. absurd cc;
          names = new_pieces progress.done progress.name progress.pieces
              (progress.pieces ++ p ∷ []) sound.names;
        };
        closes = λ still. absurd cc;
      })

  begun : (progress next : Progress A) (name : List ℕ) (later : List (List ℕ)) → IsSound progress
      → begin progress name ≡ Some next
      → Steps progress next (rows.Section name) later
  unfolding begin
  begun progress next name later sound e =
      let sections = sections_of progress in
      let start : Progress A = record { done = sections; name = Some name; pieces = []; times = None; lines = [] } in
      let parts = cond_some (not (is_some progress.times) &&
      (ltb (length sections) MOST_SECTIONS && not (is_named name sections))) start next e in
      let tests = and_parts (not (is_some progress.times))
      (ltb (length sections) MOST_SECTIONS && not (is_named name sections)) parts.0 in
      let new = (and_parts (ltb (length sections) MOST_SECTIONS) (not (is_named name sections)) tests.1).1 in
      let none = is_none progress.times tests.0 in
      subst (λ (n : Progress A). Steps progress n (rows.Section name) later) parts.1 (record {
        are = ap (λ (t : Option ℕ).
            (script_rows progress.done ++ (open_rows progress.name progress.pieces ++ repeat_rows t progress.lines))
            ++ (rows.Section name ∷ [])) none
            ∙ ap (λ (l : List (ScriptRow A)). (script_rows progress.done ++ l) ++ (rows.Section name ∷ []))
            (append-nil (open_rows progress.name progress.pieces))
            ∙ ap (λ (l : List (ScriptRow A)). l ++ (rows.Section name ∷ []))
            (sym (closed_rows progress.done progress.name progress.pieces));
        sound = record {
          inside = λ none. refl;
          names = new_appended [] sections (record { name = name; pieces = [] })
              sound.names (not_true _ new);
        };
        closes = λ still. absurd cc;
      })

  opened : (progress next : Progress A) (times : ℕ) (later : List (List ℕ)) → IsSound progress
      → open_repeat progress times (is_closed later) ≡ Some next
      → Steps progress next (rows.Repeat times) later
  unfolding open_repeat
  opened progress next times later sound e =
      let start : Progress A = record progress { times = Some times; lines = [] } in
      let parts = cond_some (is_some progress.name && (not (is_some progress.times) && is_closed later)) start next e in
      let tests = and_parts (is_some progress.name) (not (is_some progress.times) && is_closed later) parts.0 in
      let others = and_parts (not (is_some progress.times)) (is_closed later) tests.1 in
      let none = is_none progress.times others.0 in
      subst (λ (n : Progress A). Steps progress n (rows.Repeat times) later) parts.1 (record {
        are = append_assoc (script_rows progress.done)
            (open_rows progress.name progress.pieces ++ repeat_rows progress.times progress.lines)
            (rows.Repeat times ∷ [])
            ∙ ap (λ (t : Option ℕ). script_rows progress.done
            ++ ((open_rows progress.name progress.pieces ++ repeat_rows t progress.lines)
            ++ (rows.Repeat times ∷ []))) none
            ∙ ap (λ (l : List (ScriptRow A)). script_rows progress.done ++ (l ++ (rows.Repeat times ∷ [])))
            (append-nil (open_rows progress.name progress.pieces));
        sound = record { inside = λ still. tests.0; names = sound.names };
        closes = λ still. inl others.1;
      })

  stepped : (progress next : Progress A) (row : ScriptRow A) (later : List (List ℕ)) → IsSound progress
      → taken progress row later ≡ Some next → Steps progress next row later
  unfolding close_repeat add
  stepped progress next rows.Idle later sound e =
      subst (λ (n : Progress A). Steps progress n rows.Idle later) (same_some e)
      (record { are = append-nil (built progress); sound = sound; closes = λ still. inr (refl, still) })
  stepped progress next (rows.Section name) later sound e = begun progress next name later sound e
  stepped progress next (rows.Repeat times) later sound e = opened progress next times later sound e
  stepped progress next rows.End later sound e = ended progress next progress.times later refl sound e
  stepped progress next (rows.Does line) later sound e = added progress next progress.times line later refl sound e

  said_first : (row : ScriptRow A) (others : List (ScriptRow A)) → said (row ∷ []) ++ said others ≡ said (row ∷ others)
  said_first rows.Idle others = refl
  said_first _ others = refl

  -- a `repeat` that stays open is closed below
  still_closed : (progress next : Progress A) (number : ℕ) (line : List ℕ) (row : ScriptRow A) (later : List (List ℕ))
      → row_at number line ≡ Some row
      → Steps progress next row later → (is_some progress.times ≡ true → is_closed (line ∷ later) ≡ true)
      → is_some next.times ≡ true → is_closed later ≡ true
  unfolding is_closed
  still_closed progress next number line row later reads step closes still = elim (step.closes still) [
    | inl closed ↦ closed
    | inr other ↦ sym (ap (λ (o : Option Bool). or_later o (is_closed later))
        (decides_nothing number line row reads other.0)) ∙ closes other.1
  ]

  -- ---- all lines

  pub record Walks (progress end : Progress A) (number : ℕ) (lines : List (List ℕ)) : Type 0 where
    pub rows : List (ScriptRow A)
    pub tell : AreRows number lines rows
    pub are : built progress ++ said rows ≡ built end
    pub sound : IsSound end
    pub closed : is_some end.times ≡ false

  abbrev Closes : Progress A → List (List ℕ) → Type 0
  Closes progress lines = is_some progress.times ≡ true → is_closed lines ≡ true

  first_turn : (progress end : Progress A) (number : ℕ) (line : List ℕ) (lines : List (List ℕ)) → IsSound progress
      → Closes progress (line ∷ lines)
      → ((next : Progress A) → IsSound next → Closes next lines → walk next (number + 1) lines ≡ Ok end
      → Walks next end (number + 1) lines)
      → (turned : Option (Progress A)) → turn_at progress number line lines ≡ turned
      → onward number (λ next. walk next (number + 1) lines) turned ≡ Ok end
      → Walks progress end number (line ∷ lines)
  unfolding turn_at
  first_turn progress end number line lines sound closes there None is e = absurd cc
  first_turn progress end number line lines sound closes there (Some next) is e =
      let row = some_bind (row_at number line) (λ row. taken progress row lines) next is in
      let step = stepped progress next row.0 lines sound row.2 in
      let others = there next step.sound (still_closed progress next number line row.0 lines row.1 step closes) e in
      let tells = row_tells number line row.0 row.1 in
      record {
        rows = row.0 ∷ others.rows;
        tell = (tells.says, tells.is_numbered, others.tell);
        are = ap (λ (l : List (ScriptRow A)). built progress ++ l) (sym (said_first row.0 others.rows))
            ∙ sym (append_assoc (built progress) (said (row.0 ∷ [])) (said others.rows))
            ∙ ap (λ (l : List (ScriptRow A)). l ++ said others.rows) step.are ∙ others.are;
        sound = others.sound;
        closed = others.closed;
      }

  walk_takes : (progress end : Progress A) (number : ℕ) (lines : List (List ℕ)) → IsSound progress
      → Closes progress lines
      → walk progress number lines ≡ Ok end → Walks progress end number lines
  unfolding walk is_closed
  walk_takes progress end number [] sound closes e =
      subst (λ (p : Progress A). Walks progress p number []) (same_ok e)
      (record {
        rows = [];
        tell = tt;
        are = append-nil (built progress);
        sound = sound;
        closed = not_open (is_some progress.times) closes;
      })
  walk_takes progress end number (line ∷ lines) sound closes e =
      first_turn progress end number line lines sound closes (λ next. walk_takes next end (number + 1) lines)
      (turn_at progress number line lines) refl e

  -- ---- the whole text

  pub record Finishes (walked : Result (Progress A) ℕ) (sections : List (Section A)) : Type 0 where
    pub end : Progress A
    pub is : walked ≡ Ok end
    pub are : sections_of end ≡ sections

  finish_by : (end : Progress A) (sections : List (Section A)) (b : Bool)
      → cond {A = Result (List (Section A)) ℕ} b (Ok (sections_of end)) (Err 1) ≡ Ok sections
      → Finishes (Ok end) sections
  finish_by end sections true e = record { end = end; is = refl; are = same_ok e }
  finish_by end sections false e = absurd cc

  finish_takes : (walked : Result (Progress A) ℕ) (sections : List (Section A)) → finished walked ≡ Ok sections
      → Finishes walked sections
  finish_takes (Err bad) sections e = absurd cc
  finish_takes (Ok end) sections e = finish_by end sections (is_some end.name) e

  of_the_walk : (text : List ℕ) (sections : List (Section A)) → length text ≤ MOST_INPUT
      → finished (walk nothing 1 (lines_of text)) ≡ Ok sections → IsTextOf text sections
  of_the_walk text sections short e =
      let it = finish_takes (walk nothing 1 (lines_of text)) sections e in
      let walks = walk_takes nothing it.end 1 (lines_of text) (record { inside = λ none. absurd cc; names = refl })
      (λ none. absurd cc) it.is in
      let end = it.end in
      subst (IsTextOf text) it.are (record {
        short = short;
        rows = walks.rows;
        lines = walks.tell;
        are = walks.are
            ∙ ap (λ (t : Option ℕ). script_rows end.done ++ (open_rows end.name end.pieces ++ repeat_rows t end.lines))
            (is_open end.times walks.closed)
            ∙ ap (λ (l : List (ScriptRow A)). script_rows end.done ++ l) (append-nil (open_rows end.name end.pieces))
            ∙ sym (closed_rows end.done end.name end.pieces);
        names = walks.sound.names;
      })

  by_section : (b : Bool) (text : List ℕ) (sections : List (Section A)) → length text ≤ MOST_INPUT
      → cond {A = Result (List (Section A)) ℕ} b (finished (walk nothing 1 (lines_of text))) (Err 1) ≡ Ok sections
      → IsTextOf text sections
  by_section true text sections short e = of_the_walk text sections short e
  by_section false text sections short e = absurd cc

  by_length : (b : Bool) (text : List ℕ) (sections : List (Section A)) → ltb MOST_INPUT (length text) ≡ b
      → cond {A = Result (List (Section A)) ℕ} b (Err 0)
      (cond {A = Result (List (Section A)) ℕ} (list_any starts_section (lines_of text))
      (finished (walk nothing 1 (lines_of text))) (Err 1)) ≡ Ok sections → IsTextOf text sections
  by_length true text sections h e = absurd cc
  by_length false text sections h e = by_section (list_any starts_section (lines_of text)) text sections
      (ltb-false MOST_INPUT (length text) h) e

  -- what is read is of the text
  pub text_takes : (text : List ℕ) (sections : List (Section A)) → script_at text ≡ Ok sections → IsTextOf text sections
  unfolding script_at
  text_takes text sections e = by_length (ltb MOST_INPUT (length text)) text sections refl e
