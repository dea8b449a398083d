-- Code hands its answer on apart: a `Result`, and the tally that it leaves. No other two make the one value that the calculus speaks of,
-- so what determines that value determines them. Assumes nothing.
use Rattle.std.specs.Prelude.{◌≡◌, Result, Ok, Err}
use Rattle.std.proofs.Common.{sym}
use Rattle.characters.specs.declared.place.Place.{Place}
use Rattle.characters.specs.declared.refusal.Refusal.{Refusal}
use Rattle.characters.specs.declared.refusal.Refused.{Refused}
use Rattle.reading.specs.declared.node.Node.{Node}
use Rattle.reading.specs.declared.tally.Tally.{Tally}
use Rattle.reading.specs.Outs.{out_at}
use Rattle.reading.specs.Gots as got
use Rattle.reading.specs.Gots.{Got, got_of}
use Rattle.reading.proofs.Laws.Says.{read_refused, refused_read}

-- An answer with no node is not both,
pub got_refused : {p q : Place} {k : Refusal} {t u : Tally} → got.Read p t ≡ got.Refused k q u → ⊥
got_refused e = let z : ◌≡◌ {A = Got} (got.Read _ _) (got.Refused _ _ _) = e in cc

-- and it tells the `Result` and the tally.
pub got_one : (r s : Result Place Refused) (t u : Tally) → got_of r t ≡ got_of s u → (r ≡ s) × (t ≡ u)
got_one (Ok p) (Ok q) t u e = let a : p ≡ q = cc in let b : t ≡ u = cc in (λ i. Ok (a i), b)
got_one (Ok p) (Err x) t u e = absurd (got_refused e)
got_one (Err x) (Ok p) t u e = absurd (got_refused (sym e))
got_one (Err x) (Err y) t u e =
    let a : x.refusal ≡ y.refusal = cc in
    let b : x.at ≡ y.at = cc in
    let c : t ≡ u = cc in
    (λ i. Err (record { refusal = a i; at = b i }), c)

-- The same of an answer with a node, read up to a place that is known.
pub out_one : (at : Place) (r s : Result Node Refused) (t u : Tally) → out_at at r t ≡ out_at at s u → (r ≡ s) × (t ≡ u)
out_one at (Ok n) (Ok m) t u e = let a : n ≡ m = cc in let b : t ≡ u = cc in (λ i. Ok (a i), b)
out_one at (Ok n) (Err x) t u e = absurd (read_refused e)
out_one at (Err x) (Ok n) t u e = absurd (refused_read e)
out_one at (Err x) (Err y) t u e =
    let a : x.refusal ≡ y.refusal = cc in
    let b : x.at ≡ y.at = cc in
    let c : t ≡ u = cc in
    (λ i. Err (record { refusal = a i; at = b i }), c)
