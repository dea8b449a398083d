-- The laws of `Does`, which go along the code's path: a return of a routine is proved by a term that mirrors the steps taken to it.
-- Each law's last premise is about what is left of the process. Assumes nothing.
use Rattle.std.specs.Prelude.{◌≡◌, Bool, true, false, ltb}
use Rattle.std.proofs.Math.Path.{refl, subst}
use Rattle.std.proofs.Common.{sym, ap, ◌∙◌, arith, sub-one, lt-ltb, le-ltb}
use Prim.Native.Nat.{ℕ, zero, suc, ◌+◌, ◌-◌, ◌≤◌, ◌<◌}
use Rattle.characters.specs.declared.place.Place.{Place}
use Rattle.characters.specs.declared.refusal.Refusal.{Refusal}
use Rattle.characters.specs.declared.refusal.Refusal.TheVariants.{TooLong, BadNesting, NotUtf8, TooDeep, PoolFull, TooManyComparisons}
use Rattle.characters.specs.Answers.{Looked, Must, failed, found, missing, taken}
use Rattle.reading.specs.declared.node.Node.{Node}
use Rattle.reading.specs.declared.tally.Tally.{Tally}
use Rattle.reading.specs.Outs.{Out, Read, Refused}
use Rattle.reading.specs.Events.{Rec, recorded, compared, records, comparisons, End, Done, Stop, Crossed, Spent, Outcome, ended, records_of, start, with_record, with_comparison, with_id, steps}
use Rattle.reading.specs.Limits.{limited, verdict, judged, guarded}
use Rattle.reading.specs.Process.{Process, done, stop, make, compare, fresh, call, test, look, must, bind, Grammar, node_of, plain, under, run, outside, reading}
use Rattle.reading.specs.Answers.{tally_of, Tells}
use Rattle.reading.specs.Entry.{Opening, permitted, nowhere}
use Rattle.reading.specs.Says.{Layout, laid, Says, Does, Makes, Compares, Calls}
use Rattle.reading.proofs.Laws.Counts.{tally_records, at_first, first_records}
use Rattle.reading.proofs.Laws.Entry.{permitted_by, not_zero, not_over, entry_long, entry_nesting, entry_unsound, entry_open}
use Rattle.reading.proofs.Laws.Says.{refused_read, says_ended, says_bind, says_bind_stop, says_deep, says_level, says_compared}

-- A leaf that makes a record: there is room, or there is none.
pub makes_one : {M : Type 0} {w : Layout M} {cap : ℕ} {t : Tally} {p : Place} {rec : Rec} {v : ℕ} {A : M} → t.records < cap
    → Makes w cap t p rec v (Read p (node_of t rec v) (with_record t)) A (w A t.records rec)
unfolding guarded steps records_of laid
makes_one {cap = cap} {t = t} h = record { says = λ nest comps. rw (lt-ltb t.records cap h) (record { tells = refl; pool = refl }) }

pub makes_none : {M : Type 0} {w : Layout M} {cap : ℕ} {t : Tally} {p : Place} {rec : Rec} {v : ℕ} {A : M} → cap ≤ t.records
    → Makes w cap t p rec v (Refused PoolFull p t) A A
unfolding guarded steps records_of laid
makes_none {cap = cap} {t = t} h = record { says = λ nest comps. rw (le-ltb t.records cap h) (record { tells = refl; pool = refl }) }

-- A leaf that counts a comparison: there is room, or there is none.
pub compares_one : {comps : ℕ} {t : Tally} {p : Place} → t.comparisons < comps
    → Compares comps t p (Read p (plain 0 p) (with_comparison t))
unfolding guarded steps
compares_one {comps} {t} h = record { tells = λ nest cap. rw (lt-ltb t.comparisons comps h) }

pub compares_none : {comps : ℕ} {t : Tally} {p : Place} → comps ≤ t.comparisons → Compares comps t p (Refused TooManyComparisons p t)
unfolding guarded steps
compares_none {comps} {t} h = record { tells = λ nest cap. rw (le-ltb t.comparisons comps h) }

-- What a leaf's answer was, where it made a record.
pub record Made {M : Type 0} (w : Layout M) (t : Tally) (p : Place) (rec : Rec) (v : ℕ) (q : Place) (n : Node) (u : Tally) (A B : M) : Type 0 where
  pub place : q ≡ p
  pub node : n ≡ node_of t rec v
  pub tally : u ≡ with_record t
  pub pool : B ≡ w A t.records rec

pub made : {M : Type 0} {w : Layout M} {cap : ℕ} {t : Tally} {p : Place} {rec : Rec} {v : ℕ} {r : Out} {A B : M} {q : Place} {n : Node} {u : Tally}
    → Makes w cap t p rec v r A B → r ≡ Read q n u → Made w t p rec v q n u A B
unfolding guarded steps records_of laid
made {w = w} {cap = cap} {t = t} {p = p} {rec = rec} {v = v} {r = r} {A = A} {B = B} {q = q} {n = n} {u = u} h e =
    go (ltb t.records cap) (h.says 0 0).tells (h.says 0 0).pool
  where
    out : Bool → Outcome
    out b = judged (verdict b records p) (recorded rec p) (ended (Done p (node_of t rec v)))

    go : (b : Bool) → Tells (out b).end (steps (out b).events t) r → B ≡ laid w A t.records (records_of (out b).events)
        → Made w t p rec v q n u A B
    go true x y = record { place = cc; node = cc; tally = cc; pool = y }
    go false x y = absurd (refused_read (sym x ∙ e))

-- And where it counted a comparison.
pub record CountedOne (t : Tally) (p : Place) (q : Place) (n : Node) (u : Tally) : Type 0 where
  pub place : q ≡ p
  pub node : n ≡ plain 0 p
  pub tally : u ≡ with_comparison t

pub counted : {comps : ℕ} {t : Tally} {p : Place} {r : Out} {q : Place} {n : Node} {u : Tally} → Compares comps t p r → r ≡ Read q n u
    → CountedOne t p q n u
unfolding guarded steps
counted {comps} {t} {p} {r} {q} {n} {u} h e = go (ltb t.comparisons comps) (h.tells 0 0)
  where
    out : Bool → Outcome
    out b = judged (verdict b comparisons p) (compared p) (ended (Done p (plain 0 p)))

    go : (b : Bool) → Tells (out b).end (steps (out b).events t) r → CountedOne t p q n u
    go true x = record { place = cc; node = cc; tally = cc }
    go false x = absurd (refused_read (sym x ∙ e))

-- The level of a routine that is called with so many levels left is one more than its caller's; with all levels left it is the one outside.
one_deeper : (left nest : ℕ) → suc left ≤ nest → suc (nest - suc left) ≡ nest - left
one_deeper left nest l = omega arith

none_taken : (nest : ℕ) → nest - nest ≡ outside
none_taken nest = omega arith

module _ {M N : Type 0} {w : Layout M} {G : Grammar N} {cap comps left : ℕ} where
  -- done and stop
  pub by_done : {t : Tally} {p : Place} {n : Node} {A : M} → Does w G cap comps left t (done p n) (Read p n t) A A
  unfolding under
  by_done {t} {p} {n} {A} = record { says = λ nest l. says_ended w (Done p n) t (Read p n t) A refl }

  pub by_stop : {t : Tally} {k : Refusal} {p : Place} {A : M} → Does w G cap comps left t (stop k p) (Refused k p t) A A
  unfolding under
  by_stop {t} {k} {p} {A} = record { says = λ nest l. says_ended w (Stop k p) t (Refused k p t) A refl }

  -- a leaf's record, a leaf's comparison, an id
  pub by_make : {t : Tally} {p : Place} {rec : Rec} {v : ℕ} {r : Out} {A B : M} → Makes w cap t p rec v r A B
      → Does w G cap comps left t (make p rec v) r A B
  unfolding under
  by_make h = record { says = λ nest l. h.says nest comps }

  pub by_compare : {t : Tally} {p : Place} {r : Out} {A : M} → Compares comps t p r → Does w G cap comps left t (compare p) r A A
  unfolding under
  by_compare {t} {p} {r} {A} h = record { says = λ nest l. says_compared w nest cap comps t p r A h }

  pub by_fresh : {t : Tally} {p : Place} {A : M}
      → Does w G cap comps left t (fresh p) (Read p (plain (t.ids + 1) p) (with_id t)) A A
  unfolding under steps records_of laid
  by_fresh = record { says = λ nest l. record { tells = refl; pool = refl } }

  -- one after the other: the first was read; the first was refused
  pub then : {t u : Tally} {X : Process N} {k : Place → Node → Process N} {p : Place} {n : Node} {r : Out} {A B Z : M}
      → Does w G cap comps left t X (Read p n u) A B
      → Does w G cap comps left u (k p n) r B Z → Does w G cap comps left t (bind X k) r A Z
  then {t} {u} {X} {k} g h = record { says = λ nest l. says_bind w (run G (limited nest cap comps) left (nest - left)) (limited nest cap comps) t X k (g.says nest l) (h.says nest l) }

  pub stops : {t u : Tally} {X : Process N} {k : Place → Node → Process N} {j : Refusal} {p : Place} {A B : M}
      → Does w G cap comps left t X (Refused j p u) A B
      → Does w G cap comps left t (bind X k) (Refused j p u) A B
  stops {t} {u} {X} {k} g = record { says = λ nest l. says_bind_stop w (run G (limited nest cap comps) left (nest - left)) (limited nest cap comps) t X k (g.says nest l) }

  -- the answer, by what it was found to be
  pub told : {t : Tally} {P : Process N} {r r' : Out} {A B : M} → r ≡ r' → Does w G cap comps left t P r A B
      → Does w G cap comps left t P r' A B
  told {t} {P} {r} {r'} {A} {B} e h = subst (λ (r : Out). Does w G cap comps left t P r A B) e h

  -- the process, by what a leaf's answer was found to be: for an answer that is neither `Looked` nor `Must`
  pub along : {A : Type 0} (f : A → Process N) {a b : A} {t : Tally} {r : Out} {B Z : M} → a ≡ b → Does w G cap comps left t (f a) r B Z
      → Does w G cap comps left t (f b) r B Z
  along f {t = t} {r = r} {B = B} {Z = Z} e h = subst (λ (x : _). Does w G cap comps left t (f x) r B Z) e h

  -- an id, as the code was given it
  pub given : {t u : Tally} {i : ℕ} {k : Place → Node → Process N} {p : Place} {r : Out} {A B : M} → i ≡ t.ids + 1
      → u ≡ with_id t
      → Does w G cap comps left u (k p (plain i p)) r A B → Does w G cap comps left t (bind (fresh p) k) r A B
  given {t} {u} {i} {k} {p} {r} {A} {B} e f h =
      let h' = subst (λ (j : ℕ). Does w G cap comps left u (k p (plain j p)) r A B) e h in
      then by_fresh (subst (λ (x : Tally). Does w G cap comps left x (k p (plain (t.ids + 1) p)) r A B) f h')

  -- a test
  pub yes_way : {b : Bool} {t : Tally} {x y : Process N} {r : Out} {A B : M} → b ≡ true → Does w G cap comps left t x r A B
      → Does w G cap comps left t (test b x y) r A B
  unfolding under
  yes_way e h = rw e (record { says = h.says })

  pub no_way : {b : Bool} {t : Tally} {x y : Process N} {r : Out} {A B : M} → b ≡ false → Does w G cap comps left t y r A B
      → Does w G cap comps left t (test b x y) r A B
  unfolding under
  no_way e h = rw e (record { says = h.says })

  -- what may be there: the leaf's contract gives l ≡ l', the code's match gives what l is
  pub by_found : {l l' : Looked} {t : Tally} {p q : Place} {f : Place → Place → Process N} {g : Place → Process N} {r : Out} {A B : M} → l ≡ l'
      → l ≡ found p q
      → Does w G cap comps left t (f p q) r A B → Does w G cap comps left t (look l' f g) r A B
  unfolding under
  by_found {t = t} {f = f} {g = g} {r = r} {A = A} {B = B} a e h = subst (λ (v : Looked). Does w G cap comps left t (look v f g) r A B) (sym e ∙ a) (record { says = h.says })

  pub by_missing : {l l' : Looked} {t : Tally} {p : Place} {f : Place → Place → Process N} {g : Place → Process N} {r : Out} {A B : M} → l ≡ l'
      → l ≡ missing p
      → Does w G cap comps left t (g p) r A B → Does w G cap comps left t (look l' f g) r A B
  unfolding under
  by_missing {t = t} {f = f} {g = g} {r = r} {A = A} {B = B} a e h = subst (λ (v : Looked). Does w G cap comps left t (look v f g) r A B) (sym e ∙ a) (record { says = h.says })

  pub by_halted : {l l' : Looked} {t : Tally} {k : Refusal} {p : Place} {f : Place → Place → Process N} {g : Place → Process N} {A : M} → l ≡ l'
      → l ≡ failed k p
      → Does w G cap comps left t (look l' f g) (Refused k p t) A A
  unfolding under
  by_halted {t = t} {k = k} {p = p} {f = f} {g = g} {A = A} a e =
      subst (λ (v : Looked). Does w G cap comps left t (look v f g) (Refused k p t) A A) (sym e ∙ a) (record { says = λ nest l. says_ended w (Stop k p) t (Refused k p t) A refl })

  -- what has to be there
  pub by_taken : {l l' : Must} {t : Tally} {p q : Place} {f : Place → Place → Process N} {r : Out} {A B : M} → l ≡ l' → l ≡ taken p q
      → Does w G cap comps left t (f p q) r A B → Does w G cap comps left t (must l' f) r A B
  unfolding under
  by_taken {t = t} {f = f} {r = r} {A = A} {B = B} a e h = subst (λ (v : Must). Does w G cap comps left t (must v f) r A B) (sym e ∙ a) (record { says = h.says })

  pub by_failed : {l l' : Must} {t : Tally} {k : Refusal} {p : Place} {f : Place → Place → Process N} {A : M} → l ≡ l' → l ≡ failed k p
      → Does w G cap comps left t (must l' f) (Refused k p t) A A
  unfolding under
  by_failed {t = t} {k = k} {p = p} {f = f} {A = A} a e =
      subst (λ (v : Must). Does w G cap comps left t (must v f) (Refused k p t) A A) (sym e ∙ a) (record { says = λ nest l. says_ended w (Stop k p) t (Refused k p t) A refl })

  -- a level: none is left; one is taken
  pub too_deep : {nt : N} {t : Tally} {p : Place} {A : M} → left ≡ 0 → Does w G cap comps left t (call nt p) (Refused TooDeep p t) A A
  unfolding under
  too_deep {nt} {t} {p} {A} e = rw e (record { says = λ nest l. says_deep w G (limited nest cap comps) (nest - 0) nt p t A })

  pub enter : {nt : N} {t : Tally} {p : Place} {r : Out} {A B : M} → (left ≡ 0 → ⊥) → Does w G cap comps (left - 1) t (G nt p) r A B
      → Does w G cap comps left t (call nt p) r A B
  unfolding under
  enter {nt} {t} {p} {r} {A} {B} h d = go left h d
    where
      go : (l : ℕ) → (l ≡ 0 → ⊥) → Does w G cap comps (l - 1) t (G nt p) r A B → Does w G cap comps l t (call nt p) r A B
      go zero h d = absurd (h refl)
      go (suc l) h d =
          let d' = rw (sub-one (suc l)) at d in
          record { says = λ nest i. says_level w G (limited nest cap comps) (nest - suc l) nt p t l (rw (one_deeper l nest i) (d'.says nest (omega arith))) }

-- ---- what an answer counts, and what it laid

tells_tally : (e : End) (u : Tally) (r : Out) → Tells e u r → tally_of r ≡ u
tells_tally (Done p n) u r h = ap tally_of h
tells_tally (Stop k p) u r h = ap tally_of h
tells_tally (Crossed w p) u r h = ap tally_of h
tells_tally (Spent p) u r h = absurd h

module _ {M N : Type 0} {w : Layout M} {G : Grammar N} {cap comps left : ℕ} {t : Tally} {P : Process N} {r : Out} {A B : M} (d : Does w G cap comps left t P r A B) where
  first : Says w (at_first G cap comps left t P) t r A B
  first = d.says left (omega arith)

  -- Some records were laid over the pool.
  pub does_pool : B ≡ laid w A t.records (records_of (at_first G cap comps left t P).events)
  does_pool = first.pool

  does_steps : tally_of r ≡ steps (at_first G cap comps left t P).events t
  does_steps = tells_tally (at_first G cap comps left t P).end (steps (at_first G cap comps left t P).events t) r first.tells

  -- No record is lost,
  pub does_more : t.records ≤ (tally_of r).records
  does_more = let z = tally_records (at_first G cap comps left t P).events t in let e = ap (λ (u : Tally). u.records) does_steps in omega arith

  -- and the limit on records holds.
  pub does_within : t.records ≤ cap → (tally_of r).records ≤ cap
  does_within h = rw does_steps (first_records G cap comps left t P h)

-- A whole call: refused before reading, or read.
module _ {M N : Type 0} {w : Layout M} {G : Grammar N} {P : Process N} {o : Opening} {nest cap comps : ℕ} where
  pub call_long : {A : M} → o.short ≡ false → Calls w G P o nest cap comps (Refused TooLong nowhere start) A A
  call_long {A} s =
      record { says = rw (entry_long G P o (limited nest cap comps) s) (says_ended w (Stop TooLong nowhere) start (Refused TooLong nowhere start) A refl) }

  refused_nesting : {A : M} → o.short ≡ true → permitted (limited nest cap comps) ≡ false
      → Calls w G P o nest cap comps (Refused BadNesting nowhere start) A A
  refused_nesting {A} s n =
      record { says = rw (entry_nesting G P o (limited nest cap comps) s n) (says_ended w (Stop BadNesting nowhere) start (Refused BadNesting nowhere start) A refl) }

  pub call_zero : {A : M} → o.short ≡ true → nest < 1 → Calls w G P o nest cap comps (Refused BadNesting nowhere start) A A
  call_zero s n = refused_nesting s (not_zero (limited nest cap comps) n)

  pub call_over : {A : M} → o.short ≡ true → 256 < nest → Calls w G P o nest cap comps (Refused BadNesting nowhere start) A A
  call_over s n = refused_nesting s (not_over (limited nest cap comps) n)

  pub call_unsound : {A : M} → o.short ≡ true → 1 ≤ nest → nest ≤ 256 → o.sound ≡ false
      → Calls w G P o nest cap comps (Refused NotUtf8 o.prefix start) A A
  call_unsound {A} s a b u =
      record {
        says =
            rw (entry_unsound G P o (limited nest cap comps) s (permitted_by (limited nest cap comps) a b) u)
            (says_ended w (Stop NotUtf8 o.prefix) start (Refused NotUtf8 o.prefix start) A refl);
      }

  -- The record limit that the code was given is this one.
  pub call_read : {k : ℕ} {r : Out} {A B : M} → k ≡ cap → o.short ≡ true → 1 ≤ nest → nest ≤ 256 → o.sound ≡ true
      → Does w G k comps nest start P r A B → Calls w G P o nest cap comps r A B
  unfolding reading
  call_read {k} {r} {A} {B} e s a b u d =
      let d' : Does w G cap comps nest start P r A B = subst (λ (x : ℕ). Does w G x comps nest start P r A B) e d in
      let z : Says w (reading G (limited nest cap comps) P) start r A B =
      subst (λ (d : ℕ). Says w (under (run G (limited nest cap comps) nest d) (limited nest cap comps) start P) start r A B) (none_taken nest)
      (d'.says nest (omega arith)) in
      record { says = rw (entry_open G P o (limited nest cap comps) s (permitted_by (limited nest cap comps) a b) u) z }
