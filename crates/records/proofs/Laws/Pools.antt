-- The pool as a whole: records laid from its start on are its first words, row after row, and every other word is as it was. Assumes nothing.
use Rattle.std.specs.Prelude.{◌≡◌, refl, List, [], ◌∷◌, ◌++◌, ℕ, suc, ◌+◌, ◌*◌, ◌≤◌, length, take, drop}
use Rattle.std.proofs.Common.{sym, ap, subst, ◌∙◌, append-nil, append_assoc, arith, length-append, take-append-drop, length-take-le, take_at, drop-drop}
use Rattle.std.proofs.Math.Seq.{drop-append-add}
use Rattle.std.proofs.lemmas.List.Edits.{sets-eq}
use Rattle.reading.specs.Events.{Rec}
use Rattle.reading.specs.Says.{laid}
use Rattle.records.specs.Rows.{width, words, layout, rows_of}
use Rattle.records.proofs.Laws.Rows.{laid_length}

words_length : (r : Rec) → length (words r) ≡ width
unfolding words
words_length r = refl

pub rows_length : (rs : List Rec) → length (rows_of rs) ≡ length rs * width
unfolding rows_of
rows_length [] = refl
rows_length (r ∷ rs) =
    let a = length-append (words r) (rows_of rs) in
    let b = words_length r in
    let c = rows_length rs in
    omega arith

pub rows_append : (rs more : List Rec) → rows_of (rs ++ more) ≡ rows_of rs ++ rows_of more
unfolding rows_of
rows_append [] more = refl
rows_append (r ∷ rs) more = ap (λ (l : List ℕ). words r ++ l) (rows_append rs more) ∙ sym (append_assoc (words r) (rows_of rs) (rows_of more))

-- One record, between the words before it and those past it.
layout_is : (pool : List ℕ) (made : ℕ) (r : Rec) → (made + 1) * width ≤ length pool
    → layout pool made r ≡ (take (made * width) pool ++ words r) ++ drop ((made + 1) * width) pool
unfolding layout
layout_is pool made r h =
    let w : length (words r) ≡ width = words_length r in
    let e : made * width + length (words r) ≡ (made + 1) * width = omega arith in
    sets-eq (words r) pool (made * width) (omega arith) ∙ ap (λ (k : ℕ). (take (made * width) pool ++ words r) ++ drop k pool) e

-- Several.
laid_is : (rs : List Rec) (pool : List ℕ) (made : ℕ) → (made + length rs) * width ≤ length pool
    → laid layout pool made rs ≡ (take (made * width) pool ++ rows_of rs) ++ drop ((made + length rs) * width) pool
unfolding laid rows_of
laid_is [] pool made h =
    let e : (made + 0) * width ≡ made * width = omega arith in
    sym (ap (λ (l : List ℕ). l ++ drop ((made + 0) * width) pool) (append-nil (take (made * width) pool))
    ∙ ap (λ (k : ℕ). take (made * width) pool ++ drop k pool) e
    ∙ take-append-drop (made * width) pool)
laid_is (r ∷ rs) pool made h =
    let p : List ℕ = layout pool made r in
    let x : List ℕ = take (made * width) pool ++ words r in
    let y : List ℕ = drop ((made + 1) * width) pool in
    let same : length p ≡ length pool = laid_length (r ∷ []) pool made in
    let q : p ≡ x ++ y = layout_is pool made r (omega arith) in
    let a = length-append (take (made * width) pool) (words r) in
    let b = length-take-le (made * width) pool (omega arith) in
    let c = words_length r in
    let long : length x ≡ (made + 1) * width = omega arith in
    let front : take ((made + 1) * width) p ≡ x = ap (take ((made + 1) * width)) q ∙ take_at x y ((made + 1) * width) long in
    let e : (made + 1 + length rs) * width ≡ length x + length rs * width = omega arith in
    let f : (made + 1) * width + length rs * width ≡ (made + suc (length rs)) * width = omega arith in
    let back : drop ((made + 1 + length rs) * width) p ≡ drop ((made + suc (length rs)) * width) pool =
    ap (drop ((made + 1 + length rs) * width)) q
    ∙ ap (λ (k : ℕ). drop k (x ++ y)) e
    ∙ drop-append-add x y (length rs * width)
    ∙ drop-drop (length rs * width) ((made + 1) * width) pool
    ∙ ap (λ (k : ℕ). drop k pool) f
    in
    laid_is rs p (made + 1) (omega arith)
    ∙ ap (λ (l : List ℕ). (l ++ rows_of rs) ++ drop ((made + 1 + length rs) * width) p) front
    ∙ ap (λ (l : List ℕ). (x ++ rows_of rs) ++ l) back
    ∙ ap (λ (l : List ℕ). l ++ drop ((made + suc (length rs)) * width) pool) (append_assoc (take (made * width) pool) (words r) (rows_of rs))

-- From the start of the pool on.
pub laid_whole : (rs : List Rec) (pool : List ℕ) → length rs * width ≤ length pool
    → laid layout pool 0 rs ≡ rows_of rs ++ drop (length rs * width) pool
laid_whole rs pool h =
    let e : 0 + length rs ≡ length rs = omega arith in
    subst (λ (k : ℕ). laid layout pool 0 rs ≡ rows_of rs ++ drop (k * width) pool) e (laid_is rs pool 0 (omega arith))

-- So the first words are the records' rows,
pub laid_front : (rs : List Rec) (pool : List ℕ) → length rs * width ≤ length pool → take (length rs * width) (laid layout pool 0 rs) ≡ rows_of rs
laid_front rs pool h = ap (take (length rs * width)) (laid_whole rs pool h) ∙ take_at (rows_of rs) (drop (length rs * width) pool) (length rs * width) (rows_length rs)

-- and pools over which the same records were laid begin alike, whatever was laid after those.
pub laid_alike : (rs more : List Rec) (pool other : List ℕ) → length rs * width ≤ length pool → length (rs ++ more) * width ≤ length other
    → take (length rs * width) (laid layout pool 0 rs) ≡ take (length rs * width) (laid layout other 0 (rs ++ more))
laid_alike rs more pool other h k =
    let rest : List ℕ = drop (length (rs ++ more) * width) other in
    laid_front rs pool h
    ∙ sym (
    ap (take (length rs * width)) (
    laid_whole (rs ++ more) other k
    ∙ ap (λ (l : List ℕ). l ++ rest) (rows_append rs more)
    ∙ append_assoc (rows_of rs) (rows_of more) rest
    )
    ∙ take_at (rows_of rs) (rows_of more ++ rest) (length rs * width) (rows_length rs)
    )
