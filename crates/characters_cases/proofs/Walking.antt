-- A walk over the characters of a text goes on. Assumes nothing.
use Rattle.std.proofs.Common.{◌≡◌, sym, ap, ◌∙◌, Bool, true, false, [], ◌∷◌, ℕ, suc, ◌<◌, arith, add-one, length, drop, drop-cons}
use mathlib.Core.Path.{subst⁻¹}
use Rattle.characters.specs.declared.place.Place.{Place}
use Rattle.characters.specs.Text.{Text, byte_at, is_tail, past, tails, next, next_by, Stands}
use Rattle.characters.specs.PlaceLaws.{Reached, Advanced, reached_here, reached_on, advanced_reached, past_offset, past_stands}
use Rattle.characters.specs.BlankLaws.{rest}

-- past the tails of a character
tails_by : {s : Text} {q p r : Place} (t : Bool) → Stands s q → Advanced s q p → Reached s p r → Reached s q (elim t [ true ↦ r | false ↦ q ])
tails_by true h a k = reached_on (advanced_reached a) k
tails_by false h a k = reached_here h

tails_reach : (s l : Text) (q : Place) → Stands s q → l ≡ drop q.offset s → Reached s q (tails l q)
unfolding tails
tails_reach s [] q h e = reached_here h
tails_reach s (b ∷ l) q h e =
    let here = rest s q.offset b l e in
    let a = past_stands s b q h here.0 in
    tails_by (is_tail b) h a (tails_reach s l (past b q) a.stands (here.1 ∙ ap (λ (o : ℕ). drop o s) (sym (past_offset b q))))

-- the place after a character is further on
pub next_advances : {s : Text} {p q : Place} → Stands s p → p.offset < length s → q ≡ next s p → Advanced s p q
unfolding next
next_advances {s} {p} {q} h l e =
    let b = byte_at s p.offset in
    let a : Advanced s p (past b p) = past_stands s b p h l in
    let o : drop (suc p.offset) s ≡ drop (past b p).offset s = ap (λ (k : ℕ). drop k s) (sym (add-one p.offset) ∙ sym (past_offset b p)) in
    let r = tails_reach s (drop (suc p.offset) s) (past b p) a.stands o in
    let z : next s p ≡ tails (drop (suc p.offset) s) (past b p) = ap (λ (x : Text). next_by x p) (drop-cons s p.offset 256 l) in
    subst⁻¹ (λ (x : Place). Advanced s p x) (e ∙ z) (record { stands = r.stands; further = omega (arith, a.further, r.further) })
