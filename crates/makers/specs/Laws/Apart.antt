-- Code hands its answer on apart: a `Result`, and the tally that it leaves. No other two make the one value that the contracts speak of, so
-- what determines that value determines them. Assumes nothing.
use Rattle.std.specs.Prelude.{◌≡◌, ℕ, Result, Ok, Err}
use Rattle.std.proofs.Common.{sym, ap}
use Rattle.characters.specs.declared.place.Place.{Place}
use Rattle.characters.specs.declared.refusal.Refusal.{Refusal}
use Rattle.characters.specs.declared.refusal.Refused.{Refused}
use Rattle.reading.specs.declared.tally.Tally.{Tally}
use Rattle.reading.specs.Gots as gots
use Rattle.reading.proofs.Laws.Apart.{got_refused}
use Rattle.makers.specs.declared.answers.Items as items
use Rattle.makers.specs.declared.answers.Part as part
use Rattle.makers.specs.Answers.Items as lists
use Rattle.makers.specs.Answers.Items.{items_by}
use Rattle.makers.specs.Answers.Part as parts
use Rattle.makers.specs.Answers.Part.{part_by}
use Rattle.makers.specs.Answers.Reduced.{Reduced, reduced_by}

-- a refusal by its parts
same_refused : {x y : Refused} → x.refusal ≡ y.refusal → x.at ≡ y.at → x ≡ y
same_refused a b = λ i. record { refusal = a i; at = b i }

-- ---- a list

items_both : {p q : Place} {l n : ℕ} {k : Refusal} {t u : Tally} → lists.Read p l n t ≡ lists.Refused k q u → ⊥
items_both e = let z : ◌≡◌ {A = lists.Items} (lists.Read _ _ _ _) (lists.Refused _ _ _) = e in cc

pub items_one : (r s : Result items.Items Refused) (t u : Tally) → items_by r t ≡ items_by s u → (r ≡ s) × (t ≡ u)
items_one (Ok x) (Ok y) t u e =
    let a : x.at ≡ y.at = cc in
    let b : x.last ≡ y.last = cc in
    let c : x.count ≡ y.count = cc in
    let d : t ≡ u = cc in
    (λ i. Ok (record { at = a i; last = b i; count = c i }), d)
items_one (Ok x) (Err y) t u e = absurd (items_both e)
items_one (Err x) (Ok y) t u e = absurd (items_both (sym e))
items_one (Err x) (Err y) t u e =
    let a : x.refusal ≡ y.refusal = cc in
    let b : x.at ≡ y.at = cc in
    let d : t ≡ u = cc in
    (ap Err (same_refused a b), d)

-- ---- a part that may be left out

part_both : {p q : Place} {n : ℕ} {k : Refusal} {t u : Tally} → parts.Read p n t ≡ parts.Refused k q u → ⊥
part_both e = let z : ◌≡◌ {A = parts.Part} (parts.Read _ _ _) (parts.Refused _ _ _) = e in cc

pub part_one : (r s : Result part.Part Refused) (t u : Tally) → part_by r t ≡ part_by s u → (r ≡ s) × (t ≡ u)
part_one (Ok x) (Ok y) t u e =
    let a : x.at ≡ y.at = cc in
    let b : x.number ≡ y.number = cc in
    let d : t ≡ u = cc in
    (λ i. Ok (record { at = a i; number = b i }), d)
part_one (Ok x) (Err y) t u e = absurd (part_both e)
part_one (Err x) (Ok y) t u e = absurd (part_both (sym e))
part_one (Err x) (Err y) t u e =
    let a : x.refusal ≡ y.refusal = cc in
    let b : x.at ≡ y.at = cc in
    let d : t ≡ u = cc in
    (ap Err (same_refused a b), d)

-- ---- how many operators are left

pub reduced_one : (p : Place) (r s : Result ℕ Refused) (t u : Tally) → reduced_by p r t ≡ reduced_by p s u → (r ≡ s) × (t ≡ u)
reduced_one p (Ok n) (Ok m) t u e =
    let g : gots.Read p t ≡ gots.Read p u = ap (λ (x : Reduced). x.got) e in
    let d : t ≡ u = cc in
    (ap Ok (ap (λ (x : Reduced). x.len) e), d)
reduced_one p (Ok n) (Err y) t u e = absurd (got_refused (ap (λ (x : Reduced). x.got) e))
reduced_one p (Err x) (Ok m) t u e = absurd (got_refused (sym (ap (λ (x : Reduced). x.got) e)))
reduced_one p (Err x) (Err y) t u e =
    let g : gots.Refused x.refusal x.at t ≡ gots.Refused y.refusal y.at u = ap (λ (x : Reduced). x.got) e in
    let a : x.refusal ≡ y.refusal = cc in
    let b : x.at ≡ y.at = cc in
    let d : t ≡ u = cc in
    (ap Err (same_refused a b), d)
