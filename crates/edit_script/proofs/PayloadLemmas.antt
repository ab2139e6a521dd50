-- How the lines of a fragment are read.
use Rattle.std.proofs.Common.{◌≡◌, ℕ, suc, ◌+◌, ◌-◌, ◌<◌, ◌≤◌, true, false, List, [], ◌∷◌, ◌++◌, length, take, None, Some, arith, refl, sym, ◌∙◌, ap, append-nil, append_assoc, length-append}
use Rattle.std.proofs.Math.Seq.{take-append_seam}
use Rattle.std.proofs.lemmas.Grind.{flat_map-append}
use Rattle.edit_script.specs.Script.{Opened, inserts, is_dot, joined, lines_of, payload_fault, script_at, stops, with_end}
use Rattle.edit_script.specs.inner.Lines.{Cuts}
use Rattle.edit_script.specs.inner.Payload.{Copied, IsPayload, IsUnended, with_lines}

-- some lines of the fragment were read, and the rest of the bytes is left
pub record ReadsOn (bytes rest : List ℕ) (count : ℕ) : Type 0 where
  pub lines : List (List ℕ)
  pub count_is : count ≡ length lines
  pub few : count + length rest ≤ length bytes
  pub text : 0 < length rest → bytes ≡ joined lines ++ rest
  pub all : lines_of bytes ≡ lines ++ lines_of rest
  pub script : (insert : Opened) (number : ℕ) (more : List (List ℕ)) → script_at (Some insert) number (lines ++ more)
      ≡ script_at (Some (with_lines insert lines)) (number + count) more

abbrev pub opened_with : Opened → List (List ℕ) → Opened
opened_with insert lines = record { line = insert.line; path = insert.path; at = insert.at; lines = lines }

pub joined-next : (lines : List (List ℕ)) (line : List ℕ) → joined (lines ++ line ∷ []) ≡ joined lines ++ with_end line
joined-next lines line =
    flat_map-append with_end lines (line ∷ []) ∙ ap (λ l. joined lines ++ l) (append-nil (with_end line))

pub reads_start : (bytes : List ℕ) → ReadsOn bytes bytes 0
reads_start bytes = record {
  lines = [];
  count_is = refl;
  few = omega arith;
  text = λ some. refl;
  all = refl;
  script = λ insert number more.
      let none : number ≡ number + 0 = omega arith in
      ap (λ n. script_at (Some insert) n more) none
      ∙ ap (λ ls. script_at (Some (opened_with insert ls)) (number + 0) more) (sym (append-nil insert.lines));
}

line_step : (insert : Opened) (number count : ℕ) (read : List (List ℕ)) (line : List ℕ) (later : List (List ℕ)) → is_dot line ≡ false →
    script_at (Some (with_lines insert read)) (number + count) (line ∷ later)
    ≡ script_at (Some (with_lines insert (read ++ line ∷ []))) (number + (count + 1)) later
line_step insert number count read line later other =
    let next : suc (number + count) ≡ number + (count + 1) = omega arith in
    rw other
    (ap (λ ls. script_at (Some (opened_with insert ls)) (suc (number + count)) later) (append_assoc insert.lines read (line ∷ []))
    ∙ ap (λ n. script_at (Some (with_lines insert (read ++ line ∷ []))) n later) next)

-- one line more
pub reads_line : (bytes rest line after : List ℕ) (count : ℕ) → ReadsOn bytes rest count → Cuts rest line after → is_dot line ≡ false →
    ReadsOn bytes after (count + 1)
reads_line bytes rest line after count on cut other = record {
  lines = on.lines ++ line ∷ [];
  count_is = omega (arith, on.count_is, length-append on.lines (line ∷ []));
  few = omega (arith, on.few, cut.shorter);
  text = λ some.
      on.text (omega (arith, cut.shorter))
      ∙ ap (λ l. joined on.lines ++ l) (cut.ends some)
      ∙ sym (append_assoc (joined on.lines) (with_end line) after)
      ∙ ap (λ l. l ++ after) (sym (joined-next on.lines line));
  all = on.all ∙ ap (λ l. on.lines ++ l) cut.lines ∙ sym (append_assoc on.lines (line ∷ []) (lines_of after));
  script = λ insert number more.
      ap (script_at (Some insert) number) (append_assoc on.lines (line ∷ []) more)
      ∙ on.script insert number (line ∷ more)
      ∙ line_step insert number count on.lines line more other;
}

dot_step : (insert : Opened) (number count : ℕ) (read : List (List ℕ)) (line : List ℕ) (later : List (List ℕ)) → is_dot line ≡ true →
    script_at (Some (with_lines insert read)) (number + count) (line ∷ later)
    ≡ inserts (with_lines insert read) (script_at None (number + suc count) later)
dot_step insert number count read line later dot =
    let next : suc (number + count) ≡ number + suc count = omega arith in
    rw dot (ap (λ n. inserts (with_lines insert read) (script_at None n later)) next)

text_step : (bytes rest : List ℕ) (lines : List (List ℕ)) → bytes ≡ joined lines ++ rest →
    take (length bytes - length rest) bytes ≡ joined lines
text_step bytes rest lines is =
    let size : length bytes - length rest ≡ length (joined lines) = omega (arith, ap length is, length-append (joined lines) rest) in
    ap (λ n. take n bytes) size ∙ ap (take (length (joined lines))) is ∙ take-append_seam (joined lines) rest

-- the line that ends the fragment
pub reads_dot : (bytes rest line after text : List ℕ) (count : ℕ) → ReadsOn bytes rest count → Cuts rest line after → is_dot line ≡ true →
    text ≡ take (length bytes - length rest) bytes → IsPayload bytes text count after
reads_dot bytes rest line after text count on cut dot text_is =
    let is : text ≡ joined on.lines = text_is ∙ text_step bytes rest on.lines (on.text (omega (arith, cut.shorter))) in
    record {
      lines = on.lines;
      text_is = is;
      count_is = on.count_is;
      few = omega (arith, on.few, cut.shorter);
      short = omega (arith, ap length is, ap length (on.text (omega (arith, cut.shorter))), length-append (joined on.lines) rest);
      taken = on.lines ++ line ∷ [];
      front = on.all ∙ ap (λ l. on.lines ++ l) cut.lines ∙ sym (append_assoc on.lines (line ∷ []) (lines_of after));
      more_is = omega (arith, on.count_is, length-append on.lines (line ∷ []));
      script = λ insert number more.
          ap (script_at (Some insert) number) (append_assoc on.lines (line ∷ []) more)
          ∙ on.script insert number (line ∷ more)
          ∙ dot_step insert number count on.lines line more dot;
    }

-- no line is left
pub reads_end : (bytes rest : List ℕ) (count : ℕ) → ReadsOn bytes rest count → lines_of rest ≡ [] → IsUnended bytes
reads_end bytes rest count on none = λ insert number.
    let all : lines_of bytes ≡ on.lines = on.all ∙ ap (λ l. on.lines ++ l) none ∙ append-nil on.lines in
    ap (script_at (Some insert) number) (on.all ∙ ap (λ l. on.lines ++ l) none)
    ∙ on.script insert number []
    ∙ ap (λ ls. stops (payload_fault (with_lines insert ls))) (sym all)

-- lines are copied, each with its line end
pub record Copies (bytes rest text : List ℕ) (count : ℕ) : Type 0 where
  pub text_is : joined (lines_of bytes) ≡ text ++ joined (lines_of rest)
  pub count_is : length (lines_of bytes) ≡ count + length (lines_of rest)
  pub few : count + length rest ≤ length bytes
  pub short : length text ≤ suc (length bytes)
  pub size : 0 < length rest → length text + length rest ≤ length bytes

pub copies_start : (bytes : List ℕ) → Copies bytes bytes [] 0
copies_start bytes = record {
  text_is = refl;
  count_is = omega arith;
  few = omega arith;
  short = omega arith;
  size = λ some. omega arith;
}

pub copies_line : (bytes rest line after text more : List ℕ) (count : ℕ) → Copies bytes rest text count → Cuts rest line after →
    more ≡ text ++ with_end line → Copies bytes after more (count + 1)
copies_line bytes rest line after text more count on cut is =
    let had = on.size (omega (arith, cut.shorter)) in
    let long : length more ≡ length text + (length line + 1) =
    omega (arith, ap length is, length-append text (with_end line), length-append line (10 ∷ [])) in
    record {
      text_is = on.text_is
          ∙ ap (λ ls. text ++ joined ls) cut.lines
          ∙ sym (append_assoc text (with_end line) (joined (lines_of after)))
          ∙ ap (λ l. l ++ joined (lines_of after)) (sym is);
      count_is = omega (arith, on.count_is, ap length cut.lines);
      few = omega (arith, on.few, cut.shorter);
      short = omega (arith, had, long, cut.size);
      size = λ some. omega (arith, had, long, ap length (cut.ends some), length-append (with_end line) after, length-append line (10 ∷ []));
    }

pub copies_end : (bytes rest text : List ℕ) (count : ℕ) → Copies bytes rest text count → lines_of rest ≡ [] → Copied bytes text count
copies_end bytes rest text count on none = record {
  text_is = sym (on.text_is ∙ ap (λ ls. text ++ joined ls) none ∙ append-nil text);
  count_is = omega (arith, on.count_is, ap length none);
  few = omega (arith, on.few);
  short = on.short;
}
