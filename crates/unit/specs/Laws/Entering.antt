-- THE ENTRIES: each return of the full one. Assumes nothing.
use Rattle.std.specs.Prelude.{◌≡◌, ◌⊎◌, refl, Bool, true, false, List, [], ℕ, ◌≤◌, ◌<◌, length}
use Rattle.std.proofs.Common.{inl, inr, sym, ap, subst, ◌∙◌, arith, le-leb}
use Rattle.std.proofs.Math.Path.{subst⁻¹}
use Rattle.std.proofs.lemmas.Bool.{lt-leb}
use Rattle.characters.specs.declared.place.Place.{Place}
use Rattle.characters.specs.declared.refusal.Refusal.{Refusal}
use Rattle.characters.specs.declared.refusal.Refusal.TheVariants.{TooLong, BadNesting, NotUtf8}
use Rattle.characters.specs.Text.{Text, Stands, start as first}
use Rattle.characters.specs.Refusals.{number_of}
use Rattle.characters.specs.Blanks.{file_start}
use Rattle.characters.specs.Utf8.{well_formed, prefix_place}
use Rattle.reading.specs.declared.tally.Tally.{Tally}
use Rattle.reading.specs.declared.answer.Answer.{Answer}
use Rattle.reading.specs.Gots.{Got, Read, Refused}
use Rattle.reading.specs.Outs.{Out}
use Rattle.reading.specs.Events.{start}
use Rattle.reading.specs.Answers.{answer_from}
use Rattle.reading.specs.Entry.{nowhere}
use Rattle.reading.specs.Says.{Calls}
use Rattle.reading.proofs.Laws.Does.{call_long, call_zero, call_over, call_unsound, call_read}
use Rattle.records.specs.Rows.{layout, cap_of}
use Rattle.records.specs.Nodes.{out_of}
use Rattle.records.proofs.Laws.Rows.{lent_by}
use Rattle.grammar.specs.Units.{unit_p, start_of, opening, full}
use Rattle.grammar.specs.Grammar.{grammar}
use Rattle.grammar.specs.Reads.{Ready, Reads}
use Rattle.unit.specs.Suits.Units.{start_stands}
use Rattle.unit.specs.Entries.{Enters}
use Rattle.unit.specs.EntryLaws.{enters_said}

-- ---- what the caller is told

pub told_read : {r : Got} {p : Place} {u : Tally} → r ≡ Read p u
    → record { number = 0; line = p.line; column = p.column; records = u.records; comparisons = u.comparisons } ≡ answer_from (out_of [] r)
told_read e = sym (ap (λ (r : Got). answer_from (out_of [] r)) e)

pub told_refused : {r : Got} {k : Refusal} {p : Place} {u : Tally} {n : ℕ} → r ≡ Refused k p u → n ≡ number_of k
    → record { number = n; line = p.line; column = p.column; records = u.records; comparisons = u.comparisons } ≡ answer_from (out_of [] r)
told_refused {p = p} {u = u} e f =
    (λ i. record { number = f i; line = p.line; column = p.column; records = u.records; comparisons = u.comparisons })
    ∙ sym (ap (λ (r : Got). answer_from (out_of [] r)) e)

-- before reading
pub told_before : (k : Refusal) (p : Place) {t : Tally} {a : Answer} → t ≡ start → a ≡ answer_from (out_of [] (Refused k p t))
    → a ≡ answer_from (out_of [] (Refused k p start))
told_before k p e f = f ∙ ap (λ (t : Tally). answer_from (out_of [] (Refused k p t))) e

-- no node is told
told_alike : (A B : List ℕ) (r : Got) → answer_from (out_of A r) ≡ answer_from (out_of B r)
told_alike A B (Read p u) = refl
told_alike A B (Refused k p u) = refl

-- ---- the full entry

module _ (s A : List ℕ) (nest comps : ℕ) (file : Bool) where
  enters : {r : Out} {a : Answer} {B : List ℕ} → a ≡ answer_from r
      → Calls layout (grammar s) (unit_p s (start_of file s)) (opening s) nest (cap_of (length A)) comps r A B
      → Enters s nest comps file a A B
  unfolding full
  enters {B = B} e h = subst⁻¹ (λ (a : Answer). Enters s nest comps file a A B) e (enters_said h.says)

  -- "1, 2, 3 are checked in that order"
  pub enters_long : {a : Answer} → 65535 < length s → a ≡ answer_from (out_of [] (Refused TooLong nowhere start)) → Enters s nest comps file a A A
  enters_long l e = enters e (call_long (lt-leb (length s) 65535 l))

  module _ (l : length s ≤ 65535) where
    pub enters_zero : {a : Answer} → nest < 1 → a ≡ answer_from (out_of [] (Refused BadNesting nowhere start)) → Enters s nest comps file a A A
    enters_zero n e = enters e (call_zero (le-leb (length s) 65535 l) n)

    pub enters_over : {a : Answer} → 256 < nest → a ≡ answer_from (out_of [] (Refused BadNesting nowhere start)) → Enters s nest comps file a A A
    enters_over n e = enters e (call_over (le-leb (length s) 65535 l) n)

    pub enters_nest : {a : Answer} → (nest < 1) ⊎ ((1 ≤ nest) × (256 < nest)) → a ≡ answer_from (out_of [] (Refused BadNesting nowhere start))
        → Enters s nest comps file a A A
    enters_nest (inl n) e = enters_zero n e
    enters_nest (inr n) e = enters_over n.1 e

    module _ (low : 1 ≤ nest) (high : nest ≤ 256) {b : Bool} (u : b ≡ well_formed s) where
      pub enters_unsound : {a : Answer} {p : Place} → b ≡ false → p ≡ prefix_place s → a ≡ answer_from (out_of [] (Refused NotUtf8 p start))
          → Enters s nest comps file a A A
      enters_unsound n f e =
          enters (e ∙ ap (λ (p : Place). answer_from (out_of [] (Refused NotUtf8 p start))) f)
          (call_unsound (le-leb (length s) 65535 l) low high (sym u ∙ n))

      -- the reading; the book's pool is the caller's
      pub enters_read : {cap : ℕ} {at : Place} {t : Tally} {r : Got} {a : Answer} {B later : List ℕ} → b ≡ true → cap ≡ cap_of (length A)
          → at ≡ start_of file s
          → t ≡ start
          → Reads s cap comps nest at t (unit_p s at) r A B → a ≡ answer_from (out_of [] r)
          → later ≡ B
          → Enters s nest comps file a A later
      enters_read {cap} {at} {t} {r} {a} {B} n c f i d e z =
          let d' : Reads s cap comps nest (start_of file s) t (unit_p s (start_of file s)) r A B =
          subst (λ (p : Place). Reads s cap comps nest p t (unit_p s p) r A B) f d
          in
          let d'' : Reads s cap comps nest (start_of file s) start (unit_p s (start_of file s)) r A B =
          subst (λ (u : Tally). Reads s cap comps nest (start_of file s) u (unit_p s (start_of file s)) r A B) i d'
          in
          subst⁻¹ (λ (C : List ℕ). Enters s nest comps file a A C) z
          (enters (e ∙ told_alike [] B r) (call_read c (le-leb (length s) 65535 l) low high (sym u ∙ n) d''.does))

-- what the unit is read with
pub enters_ready : {s A : List ℕ} {cap : ℕ} {at : Place} {t : Tally} (file : Bool) → length s ≤ 65535 → cap ≡ cap_of (length A) → at ≡ start_of file s
    → t ≡ start
    → Ready s A cap at t
enters_ready {s} {A} {cap} {at} {t} file l c f i =
    let a = ap (λ (u : Tally). u.records) i in
    let b = ap (λ (u : Tally). u.ids) i in
    record {
      short = l;
      small = omega arith;
      lent = lent_by c;
      stands = subst⁻¹ (λ (p : Place). Stands s p) f (start_stands s file l);
      room = omega arith;
      ids = omega arith;
    }

-- where the reading starts
pub starts_file : (s : Text) {file : Bool} {p : Place} → file ≡ true → p ≡ file_start s → p ≡ start_of file s
starts_file s e f = f ∙ sym (ap (λ (b : Bool). start_of b s) e)

pub starts_string : (s : Text) {file : Bool} {p : Place} → file ≡ false → p ≡ first → p ≡ start_of file s
starts_string s e f = f ∙ sym (ap (λ (b : Bool). start_of b s) e)
