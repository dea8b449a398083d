-- The laws of the entries: what the promises of reading come to for a unit. A text that is too long is refused by 1 before reading, so what is
-- said of the unlimited reading holds of every text. Assumes nothing.
use Rattle.std.specs.Prelude.{◌≡◌, ◌⊎◌, ◌↔◌, Bool, ℕ, ◌*◌, ◌≤◌, ◌<◌, length, get_or, take, drop}
use Rattle.std.proofs.Math.Path.{refl, sym, subst⁻¹}
use Rattle.std.proofs.Common.{ap, subst, ◌∙◌, inl, inr, arith}
use Rattle.std.proofs.Math.Bool.{true, false}
use mathlib.Core.List.{List, [], ◌∷◌, ◌++◌}
use Rattle.std.proofs.Math.Dec.{leb}
use borrow.Author.Tests.{leb-true, le-leb, lt-leb}
use Rattle.characters.specs.declared.place.Place.{Place}
use Rattle.characters.specs.declared.refusal.Refusal.TheVariants.{TooLong}
use Rattle.characters.specs.Text.{Text}
use Rattle.characters.specs.Refusals.{number_of}
use Rattle.characters.specs.Utf8.{well_formed, prefix_place}
use Rattle.reading.specs.declared.answer.Answer.{Answer}
use Rattle.reading.specs.Outs.{Out}
use Rattle.reading.specs.Events.{Rec, Which, End, Done, Stop, Crossed, Spent, Outcome, ended, records_of, comparisons_of, start}
use Rattle.reading.specs.Limits.{Limits, limited, cut}
use Rattle.reading.specs.Process.{reading, unlimited}
use Rattle.reading.specs.Answers.{refusal_of, answer_of, answer_from}
use Rattle.reading.specs.Demands.{by_limit, Opens, Grows, Crosses, Counted, AllEarlier}
use Rattle.reading.specs.Suits.{AllFine, Proper}
use Rattle.reading.specs.Entry.{Opening, permitted, nowhere, gated, opened, entry}
use Rattle.reading.specs.Says.{laid, Says}
use Rattle.reading.proofs.Promises as reads
use Rattle.reading.proofs.Laws.Entry.{permitted_by, entry_long}
use Rattle.reading.proofs.Laws.Unlimited.{reading_ends}
use Rattle.reading.proofs.Laws.Says.{says_answer}
use Rattle.records.specs.Rows.{width, layout, cap_of, rows_of}
use Rattle.records.specs.Meanings.{AllMeant}
use Rattle.records.proofs.Laws.Rows.{laid_length, laid_past}
use Rattle.records.proofs.Laws.Pools.{laid_whole, laid_alike}
use Rattle.grammar.specs.Grammar.{grammar}
use Rattle.grammar.specs.Units.{unit_p, start_of, opening, full}
use Rattle.unit.specs.Suits.Falling.{chosen}
use Rattle.unit.specs.Suits.Units.{enough_levels, suits}
use Rattle.unit.specs.Entries.{call_of, records_by, Enters, unlimited_unit, Told, Raised}

-- ---- texts that are short, and texts that are not

opened_long : (o : Opening) (L : Limits) (x : Outcome) → o.short ≡ false → opened o L x ≡ ended (Stop TooLong nowhere)
opened_long o L x e = rw e

-- What a rule or a limit ends is told.
told_by : (e : End) → Proper e ⊎ (by_limit e ≡ true) → Told e
told_by (Done p n) h = tt
told_by (Stop k p) h = tt
told_by (Crossed w p) h = tt
told_by (Spent p) (inl h) = h
told_by (Spent p) (inr e) = let z : ◌≡◌ {A = ℕ} 0 1 = cc in absurd (omega arith)

module _ (s : Text) (cap nest comps : ℕ) (file : Bool) where
  abbrev L : Limits
  L = limited nest cap comps

  pub full_exact : full s cap nest comps file ≡ opened (opening s) L (cut L start (unlimited_unit s file))
  unfolding full
  full_exact = go (leb (length s) 65535) refl
    where
      go : (b : Bool) → leb (length s) 65535 ≡ b
          → entry (grammar s) (unit_p s (start_of file s)) (opening s) L ≡ opened (opening s) L (cut L start (unlimited_unit s file))
      go true e = reads.exact (grammar s) (chosen s) (unit_p s (start_of file s)) (enough_levels s) (suits s file (leb-true (length s) 65535 e)) (opening s) L
      go false e = entry_long (grammar s) (unit_p s (start_of file s)) (opening s) L e ∙ sym (opened_long (opening s) L (cut L start (unlimited_unit s file)) e)

  pub full_told : Told (full s cap nest comps file).end
  unfolding full entry
  full_told = go (leb (length s) 65535) refl
    where
      gate : (n u : Bool) (q : Place) (o : Outcome) → Told o.end → Told (gated true n u q o).end
      gate false u q o h = tt
      gate true false q o h = tt
      gate true true q o h = h

      go : (b : Bool) → leb (length s) 65535 ≡ b → Told (opened (opening s) L (reading (grammar s) L (unit_p s (start_of file s)))).end
      go true e =
          let o : Outcome = reading (grammar s) L (unit_p s (start_of file s)) in
          let t : Told o.end = told_by o.end (reading_ends (grammar s) (chosen s) (unit_p s (start_of file s)) (enough_levels s) (suits s file (leb-true (length s) 65535 e)) L) in
          subst⁻¹ (λ (f : Bool). Told (gated f (permitted L) (opening s).sound (opening s).prefix o).end) e (gate (permitted L) (opening s).sound (opening s).prefix o t)
      go false e = subst⁻¹ (λ (o : Outcome). Told o.end) (opened_long (opening s) L (reading (grammar s) L (unit_p s (start_of file s))) e) tt

  pub full_counted : Counted L (full s cap nest comps file)
  unfolding full
  full_counted = reads.counts (grammar s) (unit_p s (start_of file s)) (opening s) L

  pub full_earlier : AllEarlier 0 (records_of (full s cap nest comps file).events)
  unfolding full records_of
  full_earlier = go (leb (length s) 65535) refl
    where
      go : (b : Bool) → leb (length s) 65535 ≡ b → AllEarlier 0 (records_of (entry (grammar s) (unit_p s (start_of file s)) (opening s) L).events)
      go true e = reads.earlier (grammar s) (chosen s) (unit_p s (start_of file s)) (enough_levels s) (suits s file (leb-true (length s) 65535 e)) (opening s) L
      go false e = subst⁻¹ (λ (o : Outcome). AllEarlier 0 (records_of o.events)) (entry_long (grammar s) (unit_p s (start_of file s)) (opening s) L e) tt

  pub full_meant : AllMeant [] (records_of (full s cap nest comps file).events)
  unfolding full records_of
  full_meant = go (leb (length s) 65535) refl
    where
      all_meant : (before rs : List Rec) → AllFine (chosen s) before rs → AllMeant before rs
      all_meant before [] h = tt
      all_meant before (r ∷ rs) h = (h.0, all_meant (before ++ (r ∷ [])) rs h.1)

      go : (b : Bool) → leb (length s) 65535 ≡ b → AllMeant [] (records_of (entry (grammar s) (unit_p s (start_of file s)) (opening s) L).events)
      go true e =
          all_meant [] (records_of (entry (grammar s) (unit_p s (start_of file s)) (opening s) L).events) (reads.fine (grammar s) (chosen s) (unit_p s (start_of file s)) (enough_levels s) (suits s file (leb-true (length s) 65535 e)) (opening s) L)
      go false e = subst⁻¹ (λ (o : Outcome). AllMeant [] (records_of o.events)) (entry_long (grammar s) (unit_p s (start_of file s)) (opening s) L e) tt

  -- ---- before reading

  pub full_long : 65535 < length s → answer_of (full s cap nest comps file) ≡ reads.before_reading 1 nowhere
  unfolding full
  full_long l = reads.one (grammar s) (unit_p s (start_of file s)) (opening s) L (lt-leb (length s) 65535 l)

  pub full_nesting : length s ≤ 65535 → ((1 ≤ nest) × (nest ≤ 256) → ⊥) → answer_of (full s cap nest comps file) ≡ reads.before_reading 2 nowhere
  unfolding full
  full_nesting l h = reads.two (grammar s) (unit_p s (start_of file s)) (opening s) L (le-leb (length s) 65535 l) (go (leb 1 nest) refl (leb nest 256) refl)
    where
      go : (x : Bool) → leb 1 nest ≡ x → (y : Bool) → leb nest 256 ≡ y → permitted L ≡ false
      go true e true f = absurd (h (leb-true 1 nest e, leb-true nest 256 f))
      go true e false f = rw (e, f)
      go false e y f = rw e

  pub full_unsound : length s ≤ 65535 → 1 ≤ nest → nest ≤ 256 → well_formed s ≡ false
      → answer_of (full s cap nest comps file) ≡ reads.before_reading 3 (prefix_place s)
  unfolding full
  full_unsound l a b u =
      reads.three (grammar s) (unit_p s (start_of file s)) (opening s) L (le-leb (length s) 65535 l) (permitted_by L a b) u

  -- ---- where a limit is crossed

  module _ (l : length s ≤ 65535) (u : well_formed s ≡ true) (a : 1 ≤ nest) (b : nest ≤ 256) where
    pub full_exactly : (w : Which)
        → ((answer_of (full s cap nest comps file)).number ≡ number_of (refusal_of w)) ↔ ((p : Place) × Crosses L start (unlimited_unit s file).events w p)
    unfolding full
    full_exactly w =
        reads.exactly (grammar s) (chosen s) (unit_p s (start_of file s)) (enough_levels s) (suits s file l) (opening s) L w (le-leb (length s) 65535 l) (permitted_by L a b) u

    pub full_crossed : (w : Which) (p : Place) → ((full s cap nest comps file).end ≡ Crossed w p) ↔ Crosses L start (unlimited_unit s file).events w p
    unfolding full
    full_crossed w p =
        reads.crossed (grammar s) (chosen s) (unit_p s (start_of file s)) (enough_levels s) (suits s file l) (opening s) L w p (le-leb (length s) 65535 l) (permitted_by L a b) u

-- ---- the unlimited reading

pub unlimited_ends : (s : Text) (file : Bool) → length s ≤ 65535 → Proper (unlimited_unit s file).end
unlimited_ends s file l = reads.ends (grammar s) (chosen s) (unit_p s (start_of file s)) (enough_levels s) (suits s file l)

pub unlimited_stable : (s : Text) (file : Bool) → length s ≤ 65535 → (more : ℕ) → enough_levels s ≤ more
    → unlimited_unit s file ≡ unlimited (grammar s) (unit_p s (start_of file s)) more
unlimited_stable s file l more m = reads.stable (grammar s) (chosen s) (unit_p s (start_of file s)) (enough_levels s) (suits s file l) more m

-- ---- two calls, the second's limits each at least the first's

module _ (s : Text) (cap cap' nest nest' comps comps' : ℕ) (file : Bool) (a : 1 ≤ nest) (b : nest ≤ nest') (c : nest' ≤ 256) (d : cap ≤ cap')
    (e : comps ≤ comps') where
  pub full_grows : Grows (full s cap nest comps file) (full s cap' nest' comps' file)
  unfolding full
  full_grows =
      reads.limits (grammar s) (unit_p s (start_of file s)) (opening s) (limited nest cap comps) (limited nest' cap' comps')
      (permitted_by (limited nest cap comps) a (omega arith))
      (permitted_by (limited nest' cap' comps') (omega arith) c)
      (record { levels = b; records = d; comparisons = e })

  pub full_kept : ((w : Which) → (answer_of (full s cap nest comps file)).number ≡ number_of (refusal_of w) → ⊥)
      → full s cap nest comps file ≡ full s cap' nest' comps' file
  unfolding full
  full_kept h =
      reads.kept (grammar s) (unit_p s (start_of file s)) (opening s) (limited nest cap comps) (limited nest' cap' comps')
      (permitted_by (limited nest cap comps) a (omega arith))
      (permitted_by (limited nest' cap' comps') (omega arith) c)
      (record { levels = b; records = d; comparisons = e })
      h

-- ---- the pool

-- The records made have room in the pool.
records_room : (s : Text) (A : List ℕ) (nest comps : ℕ) (file : Bool) → length (records_by s A nest comps file) * width ≤ length A
records_room s A nest comps file =
    let h : length (records_by s A nest comps file) ≤ cap_of (length A) = (full_counted s (cap_of (length A)) nest comps file).records_within in
    omega arith

module _ {s : Text} {nest comps : ℕ} {file : Bool} {r : Answer} {A B : List ℕ} (h : Enters s nest comps file r A B) where
  records_told : r.records ≡ length (records_by s A nest comps file)
  records_told = ap (λ (x : Answer). x.records) h.answer

  pub enters_within : (r.records ≤ cap_of (length A)) × (r.comparisons ≤ comps)
  enters_within =
      let a : length (records_by s A nest comps file) ≤ cap_of (length A) = (full_counted s (cap_of (length A)) nest comps file).records_within in
      let b : comparisons_of (call_of s A nest comps file).events ≤ comps = (full_counted s (cap_of (length A)) nest comps file).comparisons_within in
      let c = records_told in
      let d : r.comparisons ≡ comparisons_of (call_of s A nest comps file).events = ap (λ (x : Answer). x.comparisons) h.answer in
      (omega arith, omega arith)

  pub enters_length : length B ≡ length A
  enters_length = ap length h.pool ∙ laid_length (records_by s A nest comps file) A 0

  pub enters_pool : B ≡ rows_of (records_by s A nest comps file) ++ drop (r.records * width) A
  enters_pool =
      h.pool
      ∙ laid_whole (records_by s A nest comps file) A (records_room s A nest comps file)
      ∙ ap (λ (k : ℕ). rows_of (records_by s A nest comps file) ++ drop (k * width) A) (sym records_told)

  pub enters_past : (i : ℕ) → r.records * width ≤ i → get_or B i 0 ≡ get_or A i 0
  enters_past i l =
      ap (λ (p : List ℕ). get_or p i 0) h.pool
      ∙ laid_past (records_by s A nest comps file) A 0 i (let c = records_told in omega arith)

  pub enters_raised : {nest' comps' : ℕ} {r' : Answer} {A' B' : List ℕ} → 1 ≤ nest → nest ≤ nest' → nest' ≤ 256 → length A ≤ length A' → comps ≤ comps'
      → Enters s nest' comps' file r' A' B'
      → Raised r r' B B'
  enters_raised {nest'} {comps'} {r'} {A'} {B'} a b c d e h' =
      let rs : List Rec = records_by s A nest comps file in
      let l : cap_of (length A) ≤ cap_of (length A') = omega arith in
      let g = full_grows s (cap_of (length A)) (cap_of (length A')) nest nest' comps comps' file a b c l e in
      let o : Opens rs (records_by s A' nest' comps' file) = g.opens in
      let x : r.records ≡ length rs = records_told in
      let x' : r'.records ≡ length (records_by s A' nest' comps' file) = ap (λ (x : Answer). x.records) h'.answer in
      let y : r.comparisons ≡ comparisons_of (call_of s A nest comps file).events = ap (λ (x : Answer). x.comparisons) h.answer in
      let y' : r'.comparisons ≡ comparisons_of (call_of s A' nest' comps' file).events = ap (λ (x : Answer). x.comparisons) h'.answer in
      let m = g.no_fewer_records in
      let n = g.no_fewer_comparisons in
      record {
        same =
            λ k.
            let z = full_kept s (cap_of (length A)) (cap_of (length A')) nest nest' comps comps' file a b c l e (λ w q. k w (ap (λ (x : Answer). x.number) h.answer ∙ q)) in
            h.answer ∙ ap answer_of z ∙ sym h'.answer;
        no_fewer_records = omega arith;
        no_fewer_comparisons = omega arith;
        words =
            ap (λ (k : ℕ). take (k * width) B) x
            ∙ ap (take (length rs * width)) h.pool
            ∙ laid_alike rs o.0 A A' (records_room s A nest comps file) (subst (λ (l : List Rec). length l * width ≤ length A') o.1 (records_room s A' nest' comps' file))
            ∙ ap (λ (l : List Rec). take (length rs * width) (laid layout A' 0 l)) (sym o.1)
            ∙ ap (take (length rs * width)) (sym h'.pool)
            ∙ ap (λ (k : ℕ). take (k * width) B') (sym x);
      }

-- Code that says the call's outcome meets the contract.
pub enters_said : {s : Text} {nest comps : ℕ} {file : Bool} {r : Out} {A B : List ℕ} → Says layout (call_of s A nest comps file) start r A B
    → Enters s nest comps file (answer_from r) A B
enters_said {s} {nest} {comps} {file} {r} {A} {B} h =
    record { answer = says_answer layout (call_of s A nest comps file) r A B h; pool = h.pool }
