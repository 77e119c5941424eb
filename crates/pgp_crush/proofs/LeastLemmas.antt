-- The least number that passes a test.
use Rattle.std.proofs.Common.{◌≡◌, unwrap_or, ◌≢◌, ◌<◌, ◌≤◌, ℕ, ◌+◌, zero, suc, Bool, true, false, ◌&&◌, cond, nat_lt, is_none, refl, arith, ap, sym, ◌∙◌, inl, inr, Option, Some, None, subst, add-one}
use Rattle.std.specs.Option.{option_map_or}
use Rattle.std.proofs.lemmas.Bool.{cases_Bool, cases_eq, cases_lt}
use Rattle.std.proofs.lemmas.Bool.Decides.{nat_tests}
use Rattle.pgp_crush.specs.Least.{least_from, least_below, first_least}

-- the search goes one further
abbrev pub next_least : Option ℕ → Bool → ℕ → Option ℕ
next_least (Some j) b k = Some j
next_least None b k = cond b (Some k) None

pub least_from-more : (test : ℕ → Bool) (k n j : ℕ) → k + n ≡ j → least_from test k (suc n) ≡ next_least (least_from test k n) (test j) j
unfolding least_from
least_from-more test k zero j e = let same : k ≡ j = omega arith in ap (λ (m : ℕ). cond (test m) (Some m) None) same
least_from-more test k (suc n) j e = elim (cases_Bool (test k)) [ inl passes ↦ rw passes refl | inr fails ↦ rw fails (least_from-more test (suc k) n j (omega arith)) ]

pub least_from-same : (test other : ℕ → Bool) (k n : ℕ) → ((j : ℕ) → j < k + n → test j ≡ other j) → least_from test k n ≡ least_from other k n
unfolding least_from
least_from-same test other k zero h = refl
least_from-same test other k (suc n) h = (λ i. cond (h k (omega arith) i) (Some k) (least_from-same test other (suc k) n (λ j below. h j (omega arith)) i))

-- what is found passes
pub least_from-found : (test : ℕ → Bool) (k n j : ℕ) → least_from test k n ≡ Some j → (test j ≡ true) × (k ≤ j)
unfolding least_from
least_from-found test k zero j is = cc
least_from-found test k (suc n) j is = elim (cases_Bool (test k)) [
  | inl passes ↦ (let same : Some k ≡ Some j = rw passes at is in let at : k ≡ j = cc in (ap test (sym at) ∙ passes, omega arith))
  | inr fails ↦ (let later = least_from-found test (suc k) n j (rw fails at is) in (later.0, omega (arith, later.1)))
]

-- a search that goes further finds the same below its end
pub least_from-below : (test says : ℕ → Bool) (k n m end : ℕ) → m ≤ n → k + m ≡ end
    → option_map_or (λ j. nat_lt j end && says j) (least_from test k n) false ≡ option_map_or says (least_from test k m) false
unfolding least_from
least_from-below test says k n zero end h e = later (least_from test k n) (λ j is. (least_from-found test k n j is).1)
  where
    later : (o : Option ℕ) → ((j : ℕ) → o ≡ Some j → k ≤ j) → option_map_or (λ j. nat_lt j end && says j) o false ≡ false
    later o low = grind (arith, nat_tests)
least_from-below test says k zero (suc m) end h e = absurd (omega arith)
least_from-below test says k (suc n) (suc m) end h e = elim (cases_Bool (test k)) [
  | inl passes ↦ (let before : nat_lt k end ≡ true = grind (arith, nat_tests) in rw (passes, before) refl)
  | inr fails ↦ rw fails (least_from-below test says (suc k) n m end (omega arith) (omega arith))
]

-- ---- the first number at which a function is least

least_from-none : (test : ℕ → Bool) (k n : ℕ) → ((j : ℕ) → k ≤ j → j < k + n → test j ≡ false) → least_from test k n ≡ None
unfolding least_from
least_from-none test k zero fails = refl
least_from-none test k (suc n) fails = rw (fails k (omega arith) (omega arith)) (least_from-none test (suc k) n (λ j above below. fails j (omega arith) (omega arith)))

-- some number passes
least_from-some : (test : ℕ → Bool) (k n p : ℕ) → k ≤ p → p < k + n → test p ≡ true → is_none (least_from test k n) ≡ false
unfolding least_from
least_from-some test k zero p above below passes = absurd (omega arith)
least_from-some test k (suc n) p above below passes = elim (cases_Bool (test k)) [
  | inl first ↦ rw first refl
  | inr fails ↦
      let other : k ≢ p = λ same. (let wrong : true ≡ false = sym passes ∙ (ap test (sym same) ∙ fails) in cc) in
      rw fails (least_from-some test (suc k) n p (omega arith) (omega arith) passes)
]

-- the first that passes
least_from-first : (test : ℕ → Bool) (k n p : ℕ) → k ≤ p → p < k + n → test p ≡ true → ((j : ℕ) → k ≤ j → j < p → test j ≡ false) → least_from test k n ≡ Some p
unfolding least_from
least_from-first test k zero p above below passes fails = absurd (omega arith)
least_from-first test k (suc n) p above below passes fails = elim (cases_eq k p) [
  | inl same ↦ (let first : test k ≡ true = ap test same ∙ passes in rw first (ap Some same))
  | inr other ↦
      rw (fails k (omega arith) (omega arith)) (least_from-first test (suc k) n p (omega arith) (omega arith) passes (λ j on before. fails j (omega arith) before))
]

-- Of the first i numbers f is least first at `place`, where it is `least`. Before the first, `least` is the limit of f.
pub record Leads (f : ℕ → ℕ) (limit i place least : ℕ) : Type 0 where
  pub each : (j : ℕ) → j < i → least ≤ f j
  pub before : (j : ℕ) → j < place → least < f j
  pub within : least ≤ limit
  pub opening : i ≡ 0 → (place ≡ 0) × (least ≡ limit)
  pub leader : 0 < i → (place < i) × (least ≡ f place)

pub leads-none : (f : ℕ → ℕ) (limit : ℕ) → Leads f limit 0 0 limit
leads-none f limit = record {
  each = λ j below. absurd (omega arith);
  before = λ j below. absurd (omega arith);
  within = omega arith;
  opening = λ e. (refl, refl);
  leader = λ some. absurd (omega arith);
}

-- the next number leads
pub leads-next : (f : ℕ → ℕ) (limit i place least : ℕ) → Leads f limit i place least → f i < least → Leads f limit (i + 1) i (f i)
leads-next f limit i place least had less = record {
  each = λ j below. elim (cases_lt j i) [ inl earlier ↦ omega (arith, had.each j earlier) | inr last ↦ (let same : j ≡ i = omega arith in rw same (omega arith)) ];
  before = λ j below. omega (arith, had.each j below);
  within = omega (arith, had.within);
  opening = λ e. absurd (omega arith);
  leader = λ some. (omega arith, refl);
}

-- the leader stays
pub leads-on : (f : ℕ → ℕ) (limit i place least : ℕ) → Leads f limit i place least → least ≤ f i → f i ≤ limit → Leads f limit (i + 1) place least
leads-on f limit i place least had less within = record {
  each = λ j below. elim (cases_lt j i) [ inl earlier ↦ had.each j earlier | inr last ↦ (let same : j ≡ i = omega arith in rw same less) ];
  before = had.before;
  within = had.within;
  opening = λ e. absurd (omega arith);
  leader = λ some. elim (cases_lt 0 i) [
    | inl had_some ↦ (let led = had.leader had_some in (omega (arith, led.0), led.1))
    | inr none ↦ (let at : i ≡ 0 = omega arith in let opened = had.opening at in
        (omega (arith, opened.0), rw opened.0 (let same : f i ≡ f 0 = ap f at in omega (arith, opened.1))))
  ];
}

pub leads-is : (f : ℕ → ℕ) (limit n place least : ℕ) → 0 < n → Leads f limit n place least → first_least f n ≡ Some place
leads-is f limit n place least some had =
    let led = had.leader some in
    least_from-first (λ k. is_none (least_below (λ j. nat_lt (f j) (f k)) n)) 0 n place (omega arith) (omega (arith, led.0)) passes fails
  where
    passes : is_none (least_below (λ j. nat_lt (f j) (f place)) n) ≡ true
    passes = ap is_none (least_from-none (λ j. nat_lt (f j) (f place)) 0 n (λ j above below. let no_less : least ≤ f j = had.each j (omega arith) in let at : least ≡ f place = (had.leader some).1 in grind (arith, nat_tests)))

    fails : (j : ℕ) → 0 ≤ j → j < place → is_none (least_below (λ q. nat_lt (f q) (f j)) n) ≡ false
    fails j above before =
        let less : nat_lt (f place) (f j) ≡ true = (let at : least ≡ f place = (had.leader some).1 in let below : least < f j = had.before j before in grind (arith, nat_tests)) in
        least_from-some (λ q. nat_lt (f q) (f j)) 0 n place (omega arith) (omega (arith, (had.leader some).0)) less

-- where the leader is, and what it has
record Leader (f : ℕ → ℕ) (limit n : ℕ) : Type 0 where
  place : ℕ
  least : ℕ
  leads : Leads f limit n place least

leader : (f : ℕ → ℕ) (limit n : ℕ) → ((j : ℕ) → f j ≤ limit) → Leader f limit n
leader f limit zero within = record { place = 0; least = limit; leads = leads-none f limit }
leader f limit (suc n) within =
    let had = leader f limit n within in
    elim (cases_lt (f n) had.least) [
      | inl less ↦ record {
        place = n;
        least = f n;
        leads = subst (λ (k : ℕ). Leads f limit k n (f n)) (add-one n) (leads-next f limit n had.place had.least had.leads less);
      }
      | inr not_less ↦ record {
        place = had.place;
        least = had.least;
        leads = subst (λ (k : ℕ). Leads f limit k had.place had.least) (add-one n) (leads-on f limit n had.place had.least had.leads not_less (within n));
      }
    ]

-- two functions that differ at one number alone are least first at the same number, unless one is at that
pub first_least-kept : (f g : ℕ → ℕ) (limit n i : ℕ) → 0 < n → ((j : ℕ) → f j ≤ limit) → ((j : ℕ) → g j ≤ limit) → ((j : ℕ) → j ≢ i → g j ≡ f j)
    → unwrap_or (first_least f n) 0 ≢ i → unwrap_or (first_least g n) 0 ≢ i → unwrap_or (first_least g n) 0 ≡ unwrap_or (first_least f n) 0
first_least-kept f g limit n i some f_within g_within alike f_other g_other =
    let ours = leader f limit n f_within in
    let theirs = leader g limit n g_within in
    let f_at : unwrap_or (first_least f n) 0 ≡ ours.place = ap (λ o. unwrap_or o 0) (leads-is f limit n ours.place ours.least some ours.leads) in
    let g_at : unwrap_or (first_least g n) 0 ≡ theirs.place = ap (λ o. unwrap_or o 0) (leads-is g limit n theirs.place theirs.least some theirs.leads) in
    let f_leader = ours.leads.leader some in
    let g_leader = theirs.leads.leader some in
    let at_ours : g ours.place ≡ f ours.place = alike ours.place (λ e. f_other (f_at ∙ e)) in
    let at_theirs : g theirs.place ≡ f theirs.place = alike theirs.place (λ e. g_other (g_at ∙ e)) in
    let ours_least : ours.least ≤ f theirs.place = ours.leads.each theirs.place g_leader.0 in
    let theirs_least : theirs.least ≤ g ours.place = theirs.leads.each ours.place f_leader.0 in
    let same : theirs.place ≡ ours.place = elim (cases_lt ours.place theirs.place) [
      | inl earlier ↦ (let less : theirs.least < g ours.place = theirs.leads.before ours.place earlier in absurd (omega (arith, f_leader.1, g_leader.1)))
      | inr not_earlier ↦ elim (cases_lt theirs.place ours.place) [
        | inl later ↦ (let less : ours.least < f theirs.place = ours.leads.before theirs.place later in absurd (omega (arith, f_leader.1, g_leader.1)))
        | inr not_later ↦ omega arith
      ]
    ] in
    g_at ∙ same ∙ sym f_at
