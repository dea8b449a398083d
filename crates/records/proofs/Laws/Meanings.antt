-- The laws of meanings: records made later keep them, a record just made has its kind, and what is meant refers to earlier records.
-- Assumes nothing.
use Rattle.std.specs.Prelude.{◌≡◌, refl, List, [], ◌∷◌, ◌++◌, Bool, true, false, ℕ, zero, suc, ◌+◌, ◌≤◌, T, length, None, Option, Some}
use Rattle.std.proofs.Common.{sym, subst, ap, ◌∙◌, add-one, arith}
use Rattle.reading.specs.Events.{Field, word, ref, Rec, Earlier}
use Rattle.reading.specs.Suits.{Since, With}
use Rattle.records.specs.declared.kind.Kind.{Kind}
use Rattle.records.specs.Kinds.{Meaning, expression, statement, function, class, items, span, low, high, mark, operator, id, number, unused, is_reference, shape, kind_of}
use Rattle.records.specs.Meanings.{kind_in, is_a, Is, MayBe, none, some, Refers, Word, Each, MeantBy, Meant}

-- ---- the kinds of records made

kind_none : (rs : List Rec) → kind_in rs 0 ≡ 0
unfolding kind_in
kind_none [] = refl
kind_none (r ∷ rs) = refl

kind_append : (rs more : List Rec) (k : ℕ) → k ≤ length rs → kind_in (rs ++ more) k ≡ kind_in rs k
unfolding kind_in
kind_append [] more zero h = kind_none more
kind_append [] more (suc k) h = absurd (omega arith)
kind_append (r ∷ rs) more zero h = refl
kind_append (r ∷ rs) more (suc zero) h = refl
kind_append (r ∷ rs) more (suc (suc k)) h = kind_append rs more (suc k) (omega arith)

kind_last : (rs : List Rec) (r : Rec) → kind_in (rs ++ (r ∷ [])) (suc (length rs)) ≡ r.kind
unfolding kind_in
kind_last [] r = refl
kind_last (x ∷ rs) r = kind_last rs r

-- ---- what was made stays

pub is_since : {before now : List Rec} {m : Meaning} {k : ℕ} → Since before now → Is before m k → Is now m k
is_since {before} {now} {m} {k} s h =
    let e : kind_in now k ≡ kind_in before k = ap (λ (l : List Rec). kind_in l k) s.opens ∙ kind_append before s.more k h.earlier in
    let a : k ≤ length before = h.earlier in
    let b : length before ≤ length now = s.longer in
    record { earlier = omega arith; kind = subst (λ (j : ℕ). T (is_a m j)) (sym e) h.kind }

pub maybe_since : {before now : List Rec} {m : Meaning} {k : ℕ} → Since before now → MayBe before m k → MayBe now m k
maybe_since s (none e) = none e
maybe_since s (some h) = some (is_since s h)

-- A record just made is of its kind.
pub is_new : {before now : List Rec} {r : Rec} {m : Meaning} → With before r now → T (is_a m r.kind) → Is now m (length before + 1)
is_new {before} {now} {r} {m} w t =
    let e : kind_in now (length before + 1) ≡ r.kind =
    ap (λ (l : List Rec). kind_in l (length before + 1)) w.is ∙ ap (kind_in (before ++ (r ∷ []))) (add-one (length before)) ∙ kind_last before r
    in
    record { earlier = (let l = w.longer in omega arith); kind = subst (λ (j : ℕ). T (is_a m j)) (sym e) t }

-- ---- what is meant is earlier

maybe_earlier : {made : List Rec} {m : Meaning} {k : ℕ} → MayBe made m k → k ≤ length made
maybe_earlier (none e) = omega arith
maybe_earlier (some h) = h.earlier

refers_earlier : (made : List Rec) (m : Meaning) (k : ℕ) → Refers made m k → k ≤ length made
refers_earlier made expression k h = h.earlier
refers_earlier made statement k h = maybe_earlier h
refers_earlier made function k h = h.earlier
refers_earlier made class k h = h.earlier
refers_earlier made items k h = maybe_earlier h
refers_earlier made span k h = absurd h
refers_earlier made low k h = absurd h
refers_earlier made high k h = absurd h
refers_earlier made mark k h = absurd h
refers_earlier made operator k h = absurd h
refers_earlier made id k h = absurd h
refers_earlier made number k h = absurd h
refers_earlier made unused k h = absurd h

word_plain : (b : Bool) {A : Type 0} → Word b A → A
word_plain true h = absurd h
word_plain false h = h

each_earlier : (made : List Rec) (ms : List Meaning) (fs : List Field) → Each made ms fs → Earlier (length made) fs
each_earlier made [] [] h = tt
each_earlier made [] (word k ∷ fs) h = each_earlier made [] fs h
each_earlier made [] (ref k ∷ fs) h = absurd h
each_earlier made (m ∷ ms) [] h = absurd h
each_earlier made (m ∷ ms) (word k ∷ fs) h = each_earlier made ms fs (word_plain (is_reference m) h)
each_earlier made (m ∷ ms) (ref k ∷ fs) h = (refers_earlier made m k h.0, each_earlier made ms fs h.1)

pub meant_earlier : (made : List Rec) (r : Rec) → Meant made r → Earlier (length made) r.fields
meant_earlier made r h = go (kind_of r.kind) h
  where
    go : (k : Option Kind) → MeantBy k made r.fields → Earlier (length made) r.fields
    go (Some k) x = each_earlier made (shape k).fields r.fields x
    go None x = absurd x
