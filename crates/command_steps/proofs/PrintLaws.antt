-- Printing one line after another.
use Rattle.std.proofs.Common.{◌≡◌, ℕ, ◌+◌, ◌<◌, List, [], ◌∷◌, ◌++◌, length, get_or, drop, take, map, Option, Some, None, Ok, Err, refl, sym, ap, subst, ◌∙◌, append_assoc, take-append-drop}
use Rattle.std.specs.Prelude.{slice_get}
use Rattle.std.proofs.lemmas.Option.{get_or_from_slice_get, slice_get_within}
use Rattle.std.proofs.lemmas.List.{append_cancel_right, drop-map, get_or-map, length-map}
use Rattle.or_geom.proofs.ListLaws.{rest_at}
use Rattle.or_host.specs.declared.sink.PutFail.{PutFail}
use Rattle.or_host.specs.declared.sink.PutFail.TheVariants.{Failed, Memory}
use Rattle.or_host.specs.Text.{Grows, Puts}
use Rattle.reply_lines.specs.Lines.{lines_text}
use Rattle.command_steps.specs.Printed.{IsPrefixOf, AreFirstLines, Prints}

-- the text is what stands before the rest
abbrev pub IsBefore : List ℕ → List ℕ → List ℕ → Type 0
IsBefore whole rest text = whole ≡ text ++ rest

lines_text_append : (xs ys : List (List ℕ)) → lines_text (xs ++ ys) ≡ lines_text xs ++ lines_text ys
lines_text_append [] ys = refl
lines_text_append (x ∷ xs) ys = ap (λ (l : List ℕ). x ++ l) (lines_text_append xs ys) ∙ sym (append_assoc x (lines_text xs) (lines_text ys))

-- what stands before the rest of the lines is the first of them
first_lines : (lines : List (List ℕ)) (i : ℕ) (text : List ℕ) → IsBefore (lines_text lines) (lines_text (drop i lines)) text → text ≡ lines_text (take i lines)
first_lines lines i text before =
    append_cancel_right text (lines_text (take i lines)) (lines_text (drop i lines))
    (sym before ∙ (ap lines_text (sym (take-append-drop i lines)) ∙ lines_text_append (take i lines) (drop i lines)))

-- a line whose put went well stands behind those before it
pub put_goes : (lines : List (List ℕ)) (i : ℕ) (line : List ℕ) (start mid end : Option (List ℕ)) → slice_get lines i ≡ Some line
    → Grows (IsBefore (lines_text lines) (lines_text (drop i lines))) start mid → Puts mid end line (Ok tt) → Grows (IsBefore (lines_text lines) (lines_text (drop (i + 1) lines))) start end
put_goes lines i line None mid end is so_far puts = tt
put_goes lines i line (Some s) None end is so_far puts = absurd so_far
put_goes lines i line (Some s) (Some m) None is so_far puts = absurd puts
put_goes lines i line (Some s) (Some m) (Some e) is so_far puts =
    let rest = lines_text (drop (i + 1) lines) in
    let more : lines_text (drop i lines) ≡ line ++ rest = ap lines_text (rest_at lines i line (slice_get_within lines i line is) (sym (get_or_from_slice_get lines i line line is))) in (
      so_far.0 ++ puts.0,
      so_far.1
          ∙ (ap (λ (l : List ℕ). so_far.0 ++ l) (more ∙ ap (λ (l : List ℕ). l ++ rest) (sym puts.1)) ∙ sym (append_assoc so_far.0 puts.0 rest)),
      puts.2 ∙ (ap (λ (l : List ℕ). l ++ puts.0) so_far.2 ∙ append_assoc s so_far.0 puts.0),
    )

-- a put that failed leaves a prefix of all lines
cut_at : (lines : List (List ℕ)) (i : ℕ) (line bytes : List ℕ) (start mid end : Option (List ℕ)) → i < length lines → line ≡ get_or lines i line → bytes ≡ line
    → Grows (IsBefore (lines_text lines) (lines_text (drop i lines))) start mid → Puts mid end bytes (Err Failed) → Grows (IsPrefixOf (lines_text lines)) start end
cut_at lines i line bytes None mid end lt is same so_far puts = tt
cut_at lines i line bytes (Some s) None end lt is same so_far puts = absurd so_far
cut_at lines i line bytes (Some s) (Some m) None lt is same so_far puts = absurd puts
cut_at lines i line bytes (Some s) (Some m) (Some e) lt is same so_far puts =
    let n = puts.1.0 in
    let rest = lines_text (drop (i + 1) lines) in
    let more : lines_text (drop i lines) ≡ line ++ rest = ap lines_text (rest_at lines i line lt is) in
    let split : line ≡ take n bytes ++ drop n bytes = sym same ∙ sym (take-append-drop n bytes) in (
      so_far.0 ++ puts.0,
      (
        drop n bytes ++ rest,
        so_far.1
            ∙ (ap (λ (l : List ℕ). so_far.0 ++ l) (more ∙ (ap (λ (l : List ℕ). l ++ rest) split ∙ append_assoc (take n bytes) (drop n bytes) rest))
            ∙ (ap (λ (l : List ℕ). so_far.0 ++ (l ++ (drop n bytes ++ rest))) (sym puts.1.1) ∙ sym (append_assoc so_far.0 puts.0 (drop n bytes ++ rest)))),
      ),
      puts.2 ∙ (ap (λ (l : List ℕ). l ++ puts.0) so_far.2 ∙ append_assoc s so_far.0 puts.0),
    )

-- a put that ran out of memory leaves the lines before it
stopped_at : (lines : List (List ℕ)) (i : ℕ) (start mid end : Option (List ℕ)) → i < length lines → Grows (IsBefore (lines_text lines) (lines_text (drop i lines))) start mid → end ≡ mid → Grows (AreFirstLines lines) start end
stopped_at lines i None mid end lt so_far same = tt
stopped_at lines i (Some s) None end lt so_far same = absurd so_far
stopped_at lines i (Some s) (Some m) end lt so_far same =
    subst (λ (o : Option (List ℕ)). Grows (AreFirstLines lines) (Some s) o) (sym same)
    (so_far.0, record { count = i; not_all = lt; is = first_lines lines i so_far.0 so_far.1 }, so_far.2)

-- how printing ends at the line whose put did
pub put_fails : (lines : List (List ℕ)) (i : ℕ) (line bytes : List ℕ) (start mid end : Option (List ℕ)) (fail : PutFail) → i < length lines → line ≡ get_or lines i line → bytes ≡ line
    → Grows (IsBefore (lines_text lines) (lines_text (drop i lines))) start mid → Puts mid end bytes (Err fail) → Prints lines start end (Err fail)
put_fails lines i line bytes start mid end Failed lt is same so_far puts = cut_at lines i line bytes start mid end lt is same so_far puts
put_fails lines i line bytes start mid end Memory lt is same so_far puts = stopped_at lines i start mid end lt so_far puts

-- the same of lines that are made one by one
pub each_fails : {X : Type 0} (line_of : X → List ℕ) (items : List X) (i : ℕ) (item : X) (start mid end : Option (List ℕ)) (fail : PutFail) → i < length items → item ≡ get_or items i item
    → Grows (IsBefore (lines_text (map line_of items)) (lines_text (map line_of (drop i items)))) start mid → Puts mid end (line_of item) (Err fail) → Prints (map line_of items) start end (Err fail)
each_fails {X} line_of items i item start mid end fail lt is so_far puts =
    put_fails (map line_of items) i (line_of item) (line_of item) start mid end fail
    (subst (λ (n : ℕ). i < n) (sym (length-map items line_of)) lt)
    (ap line_of is ∙ sym (get_or-map line_of items i item (line_of item) lt))
    refl
    (subst (λ (l : List (List ℕ)). Grows (IsBefore (lines_text (map line_of items)) (lines_text l)) start mid) (sym (drop-map line_of i items)) so_far)
    puts

-- a put that failed adds a prefix of its bytes
pub put_cut : (bytes whole : List ℕ) (old new : Option (List ℕ)) → bytes ≡ whole → Puts old new bytes (Err Failed) → Grows (IsPrefixOf whole) old new
put_cut bytes whole None new is puts = tt
put_cut bytes whole (Some o) None is puts = absurd puts
put_cut bytes whole (Some o) (Some n) is puts =
    let k = puts.1.0 in
    (puts.0, (drop k bytes, sym is ∙ (sym (take-append-drop k bytes) ∙ ap (λ (l : List ℕ). l ++ drop k bytes) (sym puts.1.1))), puts.2)
