-- Laws of chains: ten places are enough, what is made later leaves what is pending, and what reducing leads to. Assumes nothing.
use Rattle.std.specs.Prelude.{◌≡◌, refl, Bool, true, false, List, [], ◌∷◌, ℕ, zero, suc, ◌+◌, ◌≤◌, ◌<◌, leb, ltb, length, get_or, set}
use Rattle.std.proofs.Common.{sym, ap, subst, ◌∙◌, arith, add-one, get_or-set_same, get_or-set_other, leb-true, leb-false, ltb-true, ltb-false}
use Rattle.std.proofs.Math.Path.{subst⁻¹}
use Rattle.std.proofs.Math.ListN.{get_or-eq_default}
use Rattle.characters.specs.declared.place.Place.{Place}
use Rattle.characters.specs.Text.{Text, Stands}
use Rattle.reading.specs.declared.tally.Tally.{Tally}
use Rattle.reading.specs.Gots.{Got, Read, Refused}
use Rattle.reading.specs.Outs as out
use Rattle.reading.specs.Process.{Grammar, done}
use Rattle.reading.specs.Says.{Does}
use Rattle.reading.proofs.Laws.Does.{by_done, told}
use Rattle.records.specs.Rows.{layout}
use Rattle.records.specs.Nodes.{out_of, Keeps}
use Rattle.records.proofs.Laws.Rows.{lent_kept}
use Rattle.records.proofs.Laws.Nodes.{place_kept, does_length}
use Rattle.grammar.specs.Operators.{Operator, operators, operator_of, strength_of}
use Rattle.grammar.specs.LinkLaws.{strengths}
use Rattle.grammar.specs.Expressions.{Routine, Pending, waits, reduce_p}
use Rattle.grammar.specs.Grammar.{grammar}
use Rattle.makers.specs.declared.chains.Pends.{Pends}
use Rattle.makers.specs.declared.chains.Chain.{Chain}
use Rattle.makers.specs.Answers.Reduced.{Reduced}
use Rattle.makers.specs.Duties.{Begun, last_of}
use Rattle.makers.specs.Chains.{nothing, waits_at, entries, pending_of, Rising, bottom, above, Sides, Rises, Pushed, Reduces}

-- ---- ten places are enough, for there are ten strengths

-- no number has a strength above 12
strength_most : (op : ℕ) → strength_of op ≤ 12
strength_most zero = omega arith
strength_most (suc i) = go (leb (suc i) 18) refl
  where
    go : (b : Bool) → leb (suc i) 18 ≡ b → strength_of (suc i) ≤ 12
    go true e = (strengths (suc i) (omega arith) (leb-true (suc i) 18 e)).1
    go false e =
        let l = leb-false (suc i) 18 e in
        let z : strength_of (suc i) ≡ 0 = ap (λ (o : Operator). o.strength) (get_or-eq_default (operator_of 0 ∷ operators) (operator_of 0) l) in
        omega arith

rising_length : {b : ℕ} {xs : Pending} → Rising b xs → b ≤ 13 → length xs + b ≤ 13
rising_length bottom l = omega arith
rising_length (above {x = x} {xs = xs} h r) l =
    let m = strength_most x.op in
    let s = rising_length r (omega arith) in
    let z : length (x ∷ xs) ≡ suc (length xs) = refl in
    omega arith

pub rising_from : {a b : ℕ} {xs : Pending} → a ≤ b → Rising b xs → Rising a xs
rising_from l bottom = bottom
rising_from {a} l (above {x = x} h r) = let z : a ≤ strength_of x.op = omega arith in above z r

entries_length : (pool : List ℕ) (ws : List Pends) (n : ℕ) → length (entries pool ws n) ≡ n
unfolding entries
entries_length pool ws zero = refl
entries_length pool ws (suc n) = ap suc (entries_length pool ws n)

pub ten_enough : {pool : List ℕ} {t : Tally} {c : Chain} → Rises pool t c → c.len ≤ 10
ten_enough {pool} {t} {c} r =
    let l = rising_length r.rising (omega arith) in
    let e = entries_length pool c.waiting c.len in
    omega arith

-- ---- no operator waits

pub pending_none : (pool : List ℕ) (c : Chain) → c.len ≡ 0 → pending_of pool c ≡ []
unfolding entries
pending_none pool c e = ap (entries pool c.waiting) e

pub rises_none : (pool : List ℕ) (t : Tally) (c : Chain) → c.len ≡ 0 → Rises pool t c
rises_none pool t c e =
    record {
      rising = subst⁻¹ (Rising 3) (pending_none pool c e) bottom;
      sides = record { some = λ i l. absurd (omega arith); most = λ i l. absurd (omega arith) };
    }

-- ---- what waits, by its left sides

-- fewer of them, and more records
pub sides_on : {ws : List Pends} {m n made more : ℕ} → m ≤ n → made ≤ more → Sides ws n made → Sides ws m more
sides_on l k s = record { some = λ i h. s.some i (omega arith); most = λ i h. let z = s.most i (omega arith) in omega arith }

-- THE FRAME: records made later leave what waits.
pub pending_kept : {made : ℕ} {A B : List ℕ} → Keeps made A B → (ws : List Pends) (n : ℕ) → Sides ws n made → entries B ws n ≡ entries A ws n
unfolding entries
pending_kept k ws zero s = refl
pending_kept k ws (suc n) s =
    let p = place_kept k (get_or ws n nothing).left (s.most n (omega arith)) in
    let r = pending_kept k ws n (sides_on (omega arith) (omega arith) s) in
    λ i. record { op = (get_or ws n nothing).op; left = (get_or ws n nothing).left; position = p i } ∷ r i

-- ---- an operator more

-- what is written past the places that count leaves them
set_kept : (pool : List ℕ) (ws : List Pends) (i : ℕ) (x : Pends) (n : ℕ) → n ≤ i → entries pool (set ws i x) n ≡ entries pool ws n
unfolding entries
set_kept pool ws i x zero h = refl
set_kept pool ws i x (suc n) h =
    let ne : n ≡ i → ⊥ = λ e. omega arith in
    let a : get_or (set ws i x) n nothing ≡ get_or ws n nothing = get_or-set_other ws i n x nothing ne in
    let r = set_kept pool ws i x n (omega arith) in
    λ j. waits_at pool (a j) ∷ r j

set_list : (pool : List ℕ) (ws : List Pends) (i : ℕ) (x : Pends) → i < length ws → entries pool (set ws i x) (i + 1) ≡ waits_at pool x ∷ entries pool ws i
unfolding entries
set_list pool ws i x h =
    let w : i ≤ i = omega arith in
    let a = get_or-set_same ws i x nothing h in
    let r = set_kept pool ws i x i w in
    ap (entries pool (set ws i x)) (add-one i) ∙ (λ j. waits_at pool (a j) ∷ r j)

set_sides : (ws : List Pends) (n : ℕ) (x : Pends) (made : ℕ) → n < length ws → 1 ≤ x.left → x.left ≤ made → Sides ws n made → Sides (set ws n x) (n + 1) made
set_sides ws n x made h a b s =
    record {
      some = λ i l. some (ltb i n) refl l;
      most = λ i l. most (ltb i n) refl l;
    }
  where
    old : (i : ℕ) → i < n → get_or (set ws n x) i nothing ≡ get_or ws i nothing
    old i l = let ne : i ≡ n → ⊥ = λ e. omega arith in get_or-set_other ws n i x nothing ne

    new : (i : ℕ) → n ≤ i → i < n + 1 → get_or (set ws n x) i nothing ≡ x
    new i l k = let e : i ≡ n = omega arith in ap (λ (j : ℕ). get_or (set ws n x) j nothing) e ∙ get_or-set_same ws n x nothing h

    some : {i : ℕ} (t : Bool) → ltb i n ≡ t → i < n + 1 → 1 ≤ (get_or (set ws n x) i nothing).left
    some {i} true e l = let k = ltb-true i n e in subst⁻¹ (λ (y : Pends). 1 ≤ y.left) (old i k) (s.some i k)
    some {i} false e l = subst⁻¹ (λ (y : Pends). 1 ≤ y.left) (new i (ltb-false i n e) l) a

    most : {i : ℕ} (t : Bool) → ltb i n ≡ t → i < n + 1 → (get_or (set ws n x) i nothing).left ≤ made
    most {i} true e l = let k = ltb-true i n e in subst⁻¹ (λ (y : Pends). y.left ≤ made) (old i k) (s.most i k)
    most {i} false e l = subst⁻¹ (λ (y : Pends). y.left ≤ made) (new i (ltb-false i n e) l) b

module _ {c : Chain} {n op left : ℕ} {r : Chain} (h : Pushed c n op left r) where
  pub pushed_list : (pool : List ℕ) → pending_of pool r ≡ waits_at pool (record { op = op; left = left }) ∷ entries pool c.waiting n
  pushed_list pool = ap (pending_of pool) h.exact ∙ set_list pool c.waiting n (record { op = op; left = left }) h.fits

  pub pushed_sides : {made : ℕ} → 1 ≤ left → left ≤ made → Sides c.waiting n made → Sides r.waiting r.len made
  pushed_sides {made} a b s =
      subst⁻¹ (λ (x : Chain). Sides x.waiting x.len made) h.exact
      (set_sides c.waiting n (record { op = op; left = left }) made h.fits a b s)

-- ---- what reducing leads to

-- by the strength of an operator
pub reduces_by : {cap : ℕ} {t : Tally} {at : Place} {a b : ℕ} {c : Chain} {w : Reduced} {A B : List ℕ} → a ≡ b → Reduces cap t at a c w A B
    → Reduces cap t at b c w A B
reduces_by {cap} {t} {at} {c = c} {w = w} {A = A} {B = B} e h = subst (λ (x : ℕ). Reduces cap t at x c w A B) e h

module _ {cap : ℕ} {t : Tally} {at : Place} {new : ℕ} {c : Chain} {w : Reduced} {A B : List ℕ} (h : Reduces cap t at new c w A B) where
  -- a chain that ends here, whatever the answer
  pub reduces_done : {G : Grammar Routine} {comps left : ℕ}
      → Does layout G cap comps left t (reduce_p new at (pending_of A c) (last_of A t) (λ ys e. done at e)) (out_of B w.got) A B
  reduces_done {G} {comps} {left} = go w.got refl
    where
      go : (x : Got) → w.got ≡ x → Does layout G cap comps left t (reduce_p new at (pending_of A c) (last_of A t) (λ ys e. done at e)) (out_of B w.got) A B
      go (Read p u) e =
          let z : out.Read at (last_of B u) u ≡ out_of B w.got = ap (λ (q : Place). out.Read q (last_of B u) u) (sym (h.stays e)) ∙ ap (out_of B) (sym e) in
          told z (h.goes G comps left (λ ys n. done at n) e by_done)
      go (Refused k p u) e = told (ap (out_of B) (sym e)) (h.stops G comps left (λ ys n. done at n) e)

  -- the pool is as long as it was
  pub reduces_length : length B ≡ length A
  reduces_length = does_length (reduces_done {G = grammar []} {comps = 0} {left = 0})

  module _ {p : Place} {u : Tally} (e : w.got ≡ Read p u) where
    -- what the next reader may be called with,
    pub begun_reduced : {s : Text} {here : Place} → Begun s A cap here t → Stands s at → Begun s B cap at u
    begun_reduced g v =
        let m = h.made e in
        let i = m.2 in
        let a = g.some in
        let b = g.ready.ids in
        let d = m.0 in
        record {
          ready =
              record {
                short = g.ready.short;
                small = g.ready.small;
                lent = lent_kept g.ready.lent reduces_length;
                stands = v;
                room = m.1;
                ids = omega arith;
              };
          some = omega arith;
        }

    module _ {op : ℕ} (f : new ≡ strength_of op) (l : 1 ≤ op) (k : op ≤ 18) where
      -- there is room for the operator that it was reduced by,
      pub reduced_room : w.len < 10
      reduced_room =
          let s = strengths op l k in
          let i = s.1 in
          let z = rising_length (h.rising e) (omega arith) in
          let n = entries_length B c.waiting w.len in
          omega arith

      -- which is what waits, when its right side is read,
      pub pushed_pending : {C : List ℕ} {r : Chain} → Keeps u.records B C → Pushed c w.len op u.records r
          → pending_of C r ≡ waits op (last_of B u) ∷ entries B c.waiting w.len
      pushed_pending {C} kept x =
          let q = place_kept kept u.records (omega arith) in
          let z = pending_kept kept c.waiting w.len (h.sides e) in
          pushed_list x C ∙ (λ i. record { op = op; left = u.records; position = q i } ∷ z i)

      -- and the chain may be reduced again
      pub pushed_rises : {C : List ℕ} {v : Tally} {r : Chain} → Keeps u.records B C → u.records ≤ v.records → Pushed c w.len op u.records r → 1 ≤ t.records
          → Rises C v r
      pushed_rises kept more x a =
          let m = (h.made e).0 in
          record {
            rising =
                subst⁻¹ (Rising 3) (pushed_pending kept x)
                (above (strengths op l k).0 (subst (λ (i : ℕ). Rising (suc i) (entries B c.waiting w.len)) f (h.rising e)));
            sides = pushed_sides x (omega arith) more (sides_on (omega arith) more (h.sides e));
          }
