-- Laws of the readers of `for`: each return of its three parts, and of what follows them. Assumes nothing.
use Rattle.std.specs.Prelude.{◌≡◌, refl, List, [], ◌∷◌, ℕ, zero, suc, ◌≤◌}
use Rattle.std.proofs.Common.{sym, ap, subst, ◌∙◌, arith}
use Rattle.characters.specs.declared.place.Place.{Place}
use Rattle.characters.specs.declared.refusal.Refusal.{Refusal}
use Rattle.characters.specs.Text.{Text}
use Rattle.characters.specs.Tokens.{token, expected}
use Rattle.reading.specs.declared.node.Node.{Node}
use Rattle.reading.specs.declared.tally.Tally.{Tally}
use Rattle.reading.specs.Outs as out
use Rattle.reading.specs.Gots.{Got}
use Rattle.reading.specs.Gots.{Read, Refused}
use Rattle.reading.specs.Process.{plain, done, call, look, must, bind}
use Rattle.reading.proofs.Laws.Does.{by_done, told, by_found, by_missing, by_halted, by_taken, by_failed}
use Rattle.records.specs.Nodes.{node_at}
use Rattle.records.proofs.Laws.Nodes.{read_of, refused_of}
use Rattle.grammar.specs.Expressions.{Rule, expression, statement}
use Rattle.grammar.specs.Statements.{absent, expr_or_assign_p, for_end_p, for_p, for_rest_p, first_part_p, test_part_p, third_part_p, control_body_p}
use Rattle.grammar.specs.Reads.{Ready, Reads}
use Rattle.grammar.specs.ReadLaws.{read_ends, reads_on, reads_then, reads_stop, reads_told, refuses, ready_then, ready_at}
use Rattle.makers.specs.Answers.Part.{Part}
use Rattle.makers.specs.Answers.Part as part
use Rattle.makers.specs.Duties.{last_of, Acts, part_at, Parts}
use Rattle.makers.specs.Laws.Acts.{need_on, acts_reads, acts_stays}
use Rattle.readers.specs.Laws.Answers.{sign_found, sign_missing, ready_missing, parts_told, parts_ready, parts_then}
use Rattle.characters.specs.Answers.{Looked, Must, failed, found, missing, taken}

-- ---- a part that may be left out: the sign b in its place, or what is read by `next`

-- a record that was made is no part that was left out
part_node : (pool : List ℕ) (p : Place) (n : ℕ) → 1 ≤ n → part_at pool p n ≡ node_at pool n
part_node pool p zero h = absurd (omega arith)
part_node pool p (suc n) h = refl

-- its number, which is all that a loop's record keeps of it
pub part_number : (pool : List ℕ) (p : Place) (n : ℕ) → (part_at pool p n).number ≡ n
part_number pool p zero = refl
part_number pool p (suc n) = refl

module _ {s A : List ℕ} {cap : ℕ} {at : Place} {t : Tally} (g : Ready s A cap at t) (b : ℕ) {l : Looked} (e : l ≡ token s at (b ∷ [])) where
  -- what it is read with
  pub part_ready : {h : Place} → l ≡ missing h → Ready s A cap h t
  part_ready f = ready_missing at b e g f

  module _ {comps left : ℕ} {next : Place → Rule} where
    pub part_halts : {k : Refusal} {q : Place} → l ≡ failed k q
        → Parts s cap comps left at t (look (token s at (b ∷ [])) (λ h n. done n (absent n)) next) (part.Refused k q t) A A
    part_halts f = record { does = by_halted e f; ends = tt }

    pub part_absent : {h n : Place} → l ≡ found h n
        → Parts s cap comps left at t (look (token s at (b ∷ [])) (λ h n. done n (absent n)) next) (part.Read n 0 t) A A
    part_absent f = record { does = by_found e f by_done; ends = record { reached = sign_found at b e g.stands f; ids = g.ids } }

    module _ {h low : Place} (f : l ≡ missing h) (i : h.offset ≤ low.offset) {r : Got} {B : List ℕ} (d : Reads s cap comps left low t (next h) r A B) where
      pub part_stops : {k : Refusal} {q : Place} {u : Tally} → r ≡ Refused k q u
          → Parts s cap comps left at t (look (token s at (b ∷ [])) (λ h n. done n (absent n)) next) (part.Refused k q u) A B
      part_stops x = record { does = by_missing e f (refused_of x d.does); ends = tt }

      pub part_read : {q : Place} {u : Tally} → r ≡ Read q u
          → Parts s cap comps left at t (look (token s at (b ∷ [])) (λ h n. done n (absent n)) next) (part.Read q u.records u) A B
      part_read {q} {u} x =
          let z = read_ends x d in
          let j : at.offset ≤ h.offset = (sign_missing at b e g.stands f).further in
          let k : low.offset ≤ q.offset = z.reached.further in
          record {
            does = by_missing e f (told (ap (λ (n : Node). out.Read q n u) (sym (part_node B q u.records z.made))) (read_of x d.does));
            ends = record { reached = record { stands = z.reached.stands; further = omega arith }; ids = z.ids };
          }

-- ---- first-part: ';' | statement    third-part: ')' | expr-or-assign

module _ {s A B : List ℕ} {cap comps left : ℕ} {at : Place} {t : Tally} {r : Part} where
  pub as_first : Parts s cap comps left at t (look (token s at (59 ∷ [])) (λ h n. done n (absent n)) (λ h. call statement h)) r A B
      → Parts s cap comps left at t (first_part_p s at) r A B
  unfolding first_part_p
  as_first h = h

  pub as_third : Parts s cap comps left at t (look (token s at (41 ∷ [])) (λ h n. done n (absent n)) (λ h. expr_or_assign_p s 41 h)) r A B
      → Parts s cap comps left at t (third_part_p s at) r A B
  unfolding third_part_p
  as_third h = h

  pub as_test : Parts s cap comps left at t (look (token s at (59 ∷ [])) (λ h n. done n (absent n)) (λ h. bind (call expression h) (λ q e. must (expected s q (59 ∷ [])) (λ k n. done n e)))) r A B
      → Parts s cap comps left at t (test_part_p s at) r A B
  unfolding test_part_p
  as_test h = h

-- ---- test-part: ';' | expression ';'

-- what the rule of an expression and its end comes to
module _ {s A B : List ℕ} {cap comps left : ℕ} {h : Place} {t : Tally} {r : Got} (d : Reads s cap comps left h t (call expression h) r A B) where
  pub ended_stops : {k : Refusal} {q : Place} {u : Tally} → r ≡ Refused k q u → Reads s cap comps left h t (bind (call expression h) (λ q e. must (expected s q (59 ∷ [])) (λ k n. done n e))) (Refused k q u) A B
  ended_stops x = reads_told x d

  module _ {q : Place} {u : Tally} (x : r ≡ Read q u) {l : Must} (e : l ≡ expected s q (59 ∷ [])) where
    pub ended_fails : {k : Refusal} {p : Place} → l ≡ failed k p → Reads s cap comps left h t (bind (call expression h) (λ q e. must (expected s q (59 ∷ [])) (λ k n. done n e))) (Refused k p u) A B
    ended_fails f = reads_then x d (refuses (by_failed e f))

    pub ended_read : {k n : Place} → Ready s A cap h t → l ≡ taken k n → Reads s cap comps left h t (bind (call expression h) (λ q e. must (expected s q (59 ∷ [])) (λ k n. done n e))) (Read n u) A B
    ended_read g f =
        let z = ready_then g x d in
        let a = need_on q 59 e z.stands f in
        reads_then x d (reads_on (by_taken e f) (let i = a.further in omega arith) (acts_reads (acts_stays (read_ends x d).made) (ready_at z a.stands)))

-- ---- third-part control-body, the first two parts read

-- the numbers of the parts are all that a loop's record keeps
for_as : (from : Place) (a e x : Node) (pool : List ℕ) (q p : Place) (n : ℕ) → for_end_p from a e (plain n p) x p ≡ for_end_p from a e (part_at pool q n) x p
unfolding for_end_p
for_as from a e x pool q p n = ap (λ (m : ℕ). for_end_p from a e (plain m p) x p) (sym (part_number pool q n))

rest_as : (s : Text) (from : Place) (pool later : List ℕ) (p q r : Place) (m n : ℕ)
    → for_rest_p s from (plain m r) (plain n r) r ≡ for_rest_p s from (part_at pool p m) (part_at later q n) r
unfolding for_rest_p for_end_p
rest_as s from pool later p q r m n =
    ap (λ (i : ℕ). for_rest_p s from (plain i r) (plain n r) r) (sym (part_number pool p m))
    ∙ ap (λ (i : ℕ). for_rest_p s from (part_at pool p m) (plain i r) r) (sym (part_number later q n))

module _ (one two : ℕ) (from : Place) {s A B : List ℕ} {cap comps left : ℕ} {at : Place} {t : Tally} {o : Part} (d : Parts s cap comps left at t (third_part_p s at) o A B) where
  pub round_told : {j : Refusal} {p : Place} {u : Tally} → o ≡ part.Refused j p u → Reads s cap comps left at t (for_rest_p s from (plain one at) (plain two at) at) (Refused j p u) A B
  unfolding for_rest_p
  round_told x = parts_told d x

  module _ {q : Place} {three : ℕ} {u : Tally} (x : o ≡ part.Read q three u) {b : Got} {C : List ℕ} (h : Reads s cap comps left q u (control_body_p s q) b B C) where
    pub round_stops : {j : Refusal} {p : Place} {v : Tally} → b ≡ Refused j p v → Reads s cap comps left at t (for_rest_p s from (plain one at) (plain two at) at) b A C
    unfolding for_rest_p
    round_stops y = parts_then d x (reads_stop y h)

    pub round_made : {p : Place} {v : Tally} {r : Got} {Z : List ℕ} → Ready s A cap at t → b ≡ Read p v
        → Acts cap p v (for_end_p from (plain one p) (plain two p) (plain three p) (last_of C v) p) r C Z → Reads s cap comps left at t (for_rest_p s from (plain one at) (plain two at) at) r A Z
    unfolding for_rest_p for_end_p
    round_made {p} {v} {r} {Z} g y m =
        parts_then d x
        (reads_then y h
        (subst (λ (P : Rule). Reads s cap comps left p v P r C Z) (for_as from (plain one at) (plain two at) (last_of C v) B q p three)
        (acts_reads m (ready_then (parts_ready d x g) y h))))

-- ---- for: 'for' '(' first-part test-part third-part control-body, after the keyword

for_opened : {s A : List ℕ} {cap : ℕ} {at h n : Place} {t : Tally} {l : Must} → Ready s A cap at t → l ≡ expected s at (40 ∷ []) → l ≡ taken h n
    → at.offset ≤ n.offset
for_opened {at = at} g e f = let i = (need_on at 40 e g.stands f).further in omega arith

pub for_lacks : (from : Place) {s A : List ℕ} {cap comps left : ℕ} {at : Place} {t : Tally} {l : Must} {k : Refusal} {q : Place}
    → l ≡ expected s at (40 ∷ []) → l ≡ failed k q → Reads s cap comps left at t (for_p s from at) (Refused k q t) A A
unfolding for_p
for_lacks from e f = refuses (by_failed e f)

module _ (from : Place) {s A B : List ℕ} {cap comps left : ℕ} {at h n : Place} {t : Tally} {l : Must} (g : Ready s A cap at t) (e : l ≡ expected s at (40 ∷ [])) (f : l ≡ taken h n) {o : Part} (d : Parts s cap comps left n t (first_part_p s n) o A B) where
  pub for_told : {j : Refusal} {p : Place} {u : Tally} → o ≡ part.Refused j p u → Reads s cap comps left at t (for_p s from at) (Refused j p u) A B
  unfolding for_p
  for_told x = reads_on {low = n} (by_taken e f) (for_opened g e f) (parts_told d x)

  module _ {q : Place} {one : ℕ} {u : Tally} (x : o ≡ part.Read q one u) {b : Part} {C : List ℕ} (c : Parts s cap comps left q u (test_part_p s q) b B C) where
    pub for_stops : {j : Refusal} {p : Place} {v : Tally} → b ≡ part.Refused j p v → Reads s cap comps left at t (for_p s from at) (Refused j p v) A C
    unfolding for_p
    for_stops y = reads_on (by_taken e f) (for_opened g e f) (parts_then d x (parts_told c y))

    pub for_read : {p : Place} {two : ℕ} {v : Tally} {r : Got} {Z : List ℕ} → b ≡ part.Read p two v
        → Reads s cap comps left p v (for_rest_p s from (plain one p) (plain two p) p) r C Z → Reads s cap comps left at t (for_p s from at) r A Z
    unfolding for_p
    for_read {p} {two} {v} {r} {Z} y h =
        reads_on (by_taken e f) (for_opened g e f)
        (parts_then d x (parts_then c y (subst (λ (P : Rule). Reads s cap comps left p v P r C Z) (rest_as s from B C q p p one two) h)))
