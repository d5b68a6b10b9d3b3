-- Recovery over sequences: coder and decoder in step, each with a turn of its own; S and M are the memories before each
-- place, R the blocks taken, A the answers, B the information sent and C the blocks sent. Nothing is asked of the
-- memories: a step that is taken has passed the tests of its own stream. Assumes nothing.
--
--   Linked, WrongApart   coder and decoder in step, and how wrong places lie
--   Settles              what is claimed of an answer at the end of the guard; past it, `Sure`, and `Tells` where
--                        streams are clean
--   guarded              the words of a stream after right blocks
--   settles              the claim at the end of the guard
--   delivers, delivers_first   the claim where streams are clean: of a block taken, and of one of the first memory
--   recovers             the claim past the guard
--   clean_first          streams that are clean in the first memory
use mathlib.Core.Path.{◌≡◌, refl, sym, ap, ap₂, ◌∙◌, subst}
use mathlib.Core.Bool.{Bool}
use mathlib.Core.Logic.{◌≢◌, ◌⊎◌, inl, inr}
use mathlib.Core.List.{List, [], ◌∷◌, ◌++◌}
use Prim.Native.Nat.{ℕ, suc, ◌+◌, ◌-◌, ◌*◌, ◌/◌, ◌%◌, ◌^◌, ◌≤◌, ◌<◌}
use native.Mathlib.Nat.{zero-mod, add-mul, suc-mul, one-mul, mul_comm, mul-le-mul_right, mod-lt, div-add-mod'}
use native.Mathlib.Nat.{mul_assoc, le-div_iff_mul-le, eq-zero-or-pos}
use native.Mathlib.Omega.{arith}
use lib.ListN.{length, get_or}
use lib.Pow.{pow_pos}
use Rattle.link.specs.Refusals.{Answer}
use Rattle.link.specs.declared.decode.Delivered.{Delivered}
use Rattle.std.specs.Prelude.{Option, Some, Ok}
use Rattle.span.specs.Word.{◌⊕◌, odd, digit}
use Rattle.span.specs.Combination.{combination}
use Rattle.span.proofs.Word.{xor_zero_r, xor_lt, xor_mod, xor_self, xor-twice}
use Rattle.link.specs.declared.decode.Mark.{Mark}
use Rattle.link.specs.declared.decode.Mark.TheVariants.{Clean, Parity}
use Rattle.link.specs.Memory.{joining, turn_of, pending_at, fill_of}
use Rattle.link.specs.Step.{found, error_of, kept_of, mark_of}
use Rattle.link.specs.Recovery.{Sure}
use Rattle.link.specs.Clean.{Tells}
use Rattle.link.proofs.Error.{zero-found, mark_parity}
use Rattle.link.proofs.Suitable.{Corrects}
use Rattle.link.proofs.Marks.{mark-error}
use Rattle.link.proofs.Step.{both_half, both_odd, coder_info, NotDoubtful}
use Rattle.span.proofs.Masks.{topped-lt}
use Rattle.link.proofs.Sequence.{Stream, guard_clean, guard_register, guard_syndrome, mid_clean, stream_judged}
use Rattle.link.proofs.ParitySymbol.{parity_none, parity_alike, parity_lt, parity_image, span_from}
use Rattle.link.proofs.ShortGuard.{short_judged}
use Rattle.link.proofs.Interleaving.{place-first, place-next, place-earlier}
use Rattle.link.proofs.Decoder.{stream_in, pending_in, syndrome_in, delayed_in, register_in}
use Rattle.link.proofs.Turn.{CoderRun, DecoderRun, coder_again, coder_first, pending_again, pending_first}
use Rattle.link.proofs.Turn.{syndrome_again, syndrome_first}
use Rattle.link.proofs.Delay.{fill_complete, oldest, oldest_first}

pub record Linked (n N m : ℕ) (infos : List ℕ) (S M : ℕ → List ℕ) (R B C : ℕ → ℕ) (A : ℕ → Answer (Option Delivered)) (count : ℕ)
    : Type 0 where
  pub n_from : 2 ≤ n
  pub N_from : 2 ≤ N
  pub m_from : 1 ≤ m
  pub size : length infos ≡ n - 1
  pub code : Corrects n (N - 1) (infos ++ (1 ∷ []))
  pub decoding : DecoderRun n N m infos S R A count
  pub coding : CoderRun n N m infos M B C count

-- two wrong places lie in one burst, or far apart
abbrev pub WrongApart : (ℕ → ℕ) → (ℕ → ℕ) → ℕ → ℕ → ℕ → Type 0
WrongApart R C long gap count = (p q : ℕ) → p < q → q < count → R p ≢ C p → R q ≢ C q → (q < p + long) ⊎ (p + gap < q)

-- that information is delivered, with a mark that is clean or parity
abbrev pub Settles : ℕ → Answer (Option Delivered) → ℕ → Type 0
Settles n answer info =
    (mark : Mark) × (answer ≡ Ok (Some (record { info = info; mark = mark })))
    × ((mark ≡ Clean) ⊎ (mark ≡ Parity (2 ^ (n - 1))))

module _ {n N m : ℕ} {infos : List ℕ} {S M : ℕ → List ℕ} {R B C : ℕ → ℕ} {A : ℕ → Answer (Option Delivered)} {count : ℕ}
    (l : Linked n N m infos S M R B C A count) where
  abbrev rows : List ℕ
  rows = infos ++ (1 ∷ [])

  -- the words of the turn's stream
  abbrev pd : ℕ → ℕ
  pd p = pending_in N (S p)

  abbrev sy : ℕ → ℕ
  sy p = syndrome_in N (S p)

  abbrev dl : ℕ → ℕ → ℕ
  dl i p = delayed_in N (S p) i

  abbrev pc : ℕ → ℕ
  pc p = pending_at (M p) (turn_of (M p))

  abbrev jt : ℕ → ℕ
  jt p = pd p ⊕ pc p

  abbrev er : ℕ → ℕ
  er p = R p ⊕ C p

  -- ---- coder and decoder together

  jt-again : (p : ℕ) → p + m < count → jt (p + m) ≡ (jt p ⊕ combination rows (er p)) / 2
  jt-again p h =
      let c = l.coding.codes p (omega arith) in
      ap₂ ◌⊕◌ (pending_again l.decoding p h) (coder_again l.coding p h)
      ∙ sym (both_half infos (n - 1) l.size (pc p) (pd p) (B p) (C p) (R p) c.info_lt c.coded)

  register_is : (p : ℕ) → p < count
      → register_in n N infos (S p) (R p) ≡ sy p + digit (odd (jt p ⊕ combination rows (er p))) * 2 ^ (N - 1)
  register_is p h =
      let c = l.coding.codes p h in
      ap (λ (b : Bool). sy p + digit b * 2 ^ (N - 1))
      (sym (both_odd infos (n - 1) l.size (pc p) (pd p) (B p) (C p) (R p) c.info_lt c.coded))

  er-lt : (p : ℕ) → p < count → er p < 2 ^ n
  er-lt p h =
      let c = l.coding.codes p h in
      let from = l.n_from in
      xor_lt n (R p) (C p) (l.decoding.decodes p h).block_lt
      (subst (λ (x : ℕ). x < 2 ^ n) (sym c.coded)
      (subst (λ (k : ℕ). B p + digit (odd (joining infos (pc p) (B p))) * 2 ^ (n - 1) < 2 ^ k)
      (let e : suc (n - 1) ≡ n = omega arith in e)
      (topped-lt (n - 1) (B p) (odd (joining infos (pc p) (B p))) c.info_lt)))

  er-right : (p : ℕ) → R p ≡ C p → er p ≡ 0
  er-right p e = ap (λ (x : ℕ). x ⊕ C p) e ∙ xor_self (C p)

  er-wrong : (p : ℕ) → 0 < er p → R p ≢ C p
  er-wrong p h e = let z = er-right p e in omega arith

  -- ---- one stream: the places r + k × m

  module _ (r : ℕ) where
    -- from place r on, to that of its block number `last`
    stream : (last : ℕ) → r + last * m < count
        → Stream n (N - 1) rows (λ (k : ℕ). jt (r + k * m)) (λ (k : ℕ). sy (r + k * m))
        (λ (k : ℕ). er (r + k * m)) 0 (suc last)
    stream last h = record {
      code = l.code;
      error_lt = λ k b. er-lt (r + k * m) (place-earlier m r last k count h (omega arith));
      joint_next = λ k from b.
          let e = place-next m r k in
          ap jt (place-next m r k)
          ∙ jt-again (r + k * m) (omega (arith, place-earlier m r last (suc k) count h (omega arith)));
      syndrome_next = λ k from b.
          let e = place-next m r k in
          let z = place-earlier m r last (suc k) count h (omega arith) in
          ap sy (place-next m r k) ∙ syndrome_again l.decoding (r + k * m) (omega arith)
          ∙ ap (λ (x : ℕ). kept_of (found rows x) x) (register_is (r + k * m) (omega arith));
    }

    -- its first words
    joint-lt : (last : ℕ) → r + last * m < count → jt (r + 0 * m) < 2 ^ (N - 1)
    joint-lt last h =
        let z = place-earlier m r last 0 count h (omega arith) in
        xor_lt (N - 1) (pd (r + 0 * m)) (pc (r + 0 * m)) (l.decoding.decodes (r + 0 * m) z).pending_lt
        (l.coding.codes (r + 0 * m) z).pending_lt

    syndrome_lt : (last : ℕ) → r + last * m < count → (k : ℕ) → k < suc last → sy (r + k * m) < 2 ^ (N - 1)
    syndrome_lt last h k b =
        (l.decoding.decodes (r + k * m) (place-earlier m r last k count h (omega arith))).syndrome_lt

    -- N − 1 + i right blocks from place r on: no pending word differs, and the syndrome word is short
    pub guarded : (i j : ℕ) → i + j ≡ N - 1 → r + (N - 1 + i) * m < count
        → ((k : ℕ) → k < N - 1 + i → R (r + k * m) ≡ C (r + k * m))
        → (jt (r + (N - 1 + i) * m) ≡ 0) × (sy (r + (N - 1 + i) * m) < 2 ^ j)
    guarded i j whole h right =
        let q = N - 1 + i in
        let quiet : (k : ℕ) → k < q → k < suc q → er (r + k * m) ≡ 0 = (λ k b c. er-right (r + k * m) (right k b)) in (
          guard_clean (stream q h) (joint-lt q h) (syndrome_lt q h) q quiet i (omega arith) (omega arith),
          guard_syndrome (stream q h) (joint-lt q h) (syndrome_lt q h) q quiet i j whole (omega arith) (omega arith),
        )

  -- ---- what is delivered

  abbrev reg : ℕ → ℕ
  reg p = register_in n N infos (S p) (R p)

  -- that of the parity
  abbrev weight : ℕ
  weight = 2 ^ (n - 1)

  abbrev mark : ℕ → Mark
  mark p = mark_of weight (found rows (reg p)) (reg p)

  -- the register at a place, in the words of its stream
  register-at : (r k p : ℕ) → r + k * m < count → r + k * m ≡ p
      → sy (r + k * m) + digit (odd (jt (r + k * m) ⊕ combination rows (er (r + k * m)))) * 2 ^ (N - 1) ≡ reg p
  register-at r k p h at = sym (register_is (r + k * m) h) ∙ ap reg at

  -- the information of the error that is found at place p is that of x
  abbrev Finds : ℕ → ℕ → Type 0
  Finds p x = error_of (found rows (reg p)) % 2 ^ (n - 1) ≡ x % 2 ^ (n - 1)

  corrected : (q : ℕ) → q < count → R q % 2 ^ (n - 1) ⊕ er q % 2 ^ (n - 1) ≡ B q
  corrected q h =
      let c = l.coding.codes q h in
      ap (λ (x : ℕ). R q % 2 ^ (n - 1) ⊕ x) (xor_mod (R q) (C q) (n - 1))
      ∙ xor-twice (R q % 2 ^ (n - 1)) (C q % 2 ^ (n - 1))
      ∙ coder_info infos (n - 1) l.size (pc q) (pd q) (B q) (C q) (R q) c.info_lt c.coded

  answers : (p x y : ℕ) → p < count → m * (N - 1) ≤ fill_of (S p) → Finds p x → dl 0 p ⊕ x % 2 ^ (n - 1) ≡ y
      → A p ≡ Ok (Some (record { info = y; mark = mark p }))
  answers p x y h full f is =
      (l.decoding.decodes p h).answers full
      ∙ ap (λ (z : ℕ). Ok (Some (record { info = z; mark = mark p }))) (ap (λ (e : ℕ). dl 0 p ⊕ e) f ∙ is)

  -- of the block taken m × (N − 1) places before
  answers-taken : (p q : ℕ) → p < count → q + m * (N - 1) ≡ p → Finds p (er q)
      → A p ≡ Ok (Some (record { info = B q; mark = mark p }))
  answers-taken p q h e f =
      answers p (er q) (B q) h (fill_complete l.decoding p h (omega arith)) f
      (ap (λ (x : ℕ). x ⊕ er q % 2 ^ (n - 1)) (oldest l.decoding p q h e) ∙ corrected q (omega arith))

  -- ---- the end of the guard

  -- p ends 2 × (N − 1) right blocks of its stream, of which r is the first
  module _ (r p : ℕ) (at : r + (N - 1 + (N - 2)) * m ≡ p) (inside : p < count)
      (right : (k : ℕ) → k ≤ N - 1 + (N - 2) → R (r + k * m) ≡ C (r + k * m)) where
    register-low : reg p < 2
    register-low =
        let from = l.N_from in
        let last = N - 1 + (N - 2) in
        let h : r + last * m < count = omega arith in
        let quiet : (k : ℕ) → k < suc last → k < suc last → er (r + k * m) ≡ 0 =
        (λ k b c. er-right (r + k * m) (right k (omega arith))) in
        let is = guard_register (stream r last h) (joint-lt r last h) (syndrome_lt r last h) (suc last) quiet (N - 2)
        (omega arith) (omega arith) in
        let low = guard_syndrome (stream r last h) (joint-lt r last h) (syndrome_lt r last h) (suc last) quiet (N - 2) 1
        (omega arith) (omega arith) (omega arith) in
        subst (λ (x : ℕ). x < 2) (sym is ∙ register-at r last p h at) low

    -- the register is 0, or the image of the parity symbol
    ends : ((reg p ≡ 0) ⊎ (0 < reg p))
        → (error_of (found rows (reg p)) % 2 ^ (n - 1) ≡ 0) × ((mark p ≡ Clean) ⊎ (mark p ≡ Parity weight))
    ends (inl z) =
        let f : found rows (reg p) ≡ Some 0 = ap (found rows) z ∙ zero-found rows in (
          ap (λ (g : Option ℕ). error_of g % 2 ^ (n - 1)) f ∙ zero-mod (2 ^ (n - 1)),
          inl (ap (λ (g : Option ℕ). mark_of weight g (reg p)) f),
        )
    ends (inr z) =
        let low = register-low in
        let one : reg p ≡ 1 = omega arith in
        let f : found rows (reg p) ≡ Some weight =
        ap (found rows) (one ∙ sym (parity_image n l.n_from infos l.size))
        ∙ l.code.image_found weight (parity_lt n l.n_from) in (
          ap (λ (g : Option ℕ). error_of g % 2 ^ (n - 1)) f ∙ parity_none n,
          inr (ap (λ (g : Option ℕ). mark_of weight g (reg p)) f
              ∙ sym (mark_parity weight weight (λ (e : weight ≡ 0). omega (arith, pow_pos (n - 1))) refl)),
        )

    -- the block m × (N − 1) places before is right
    pub settles : (q : ℕ) → q + m * (N - 1) ≡ p → Settles n (A p) (B q)
    settles q e =
        let from = l.N_from in
        let f = ends (eq-zero-or-pos (reg p)) in
        let w = N - 1 in
        let there : r + (N - 2) * m ≡ q = omega (arith, add-mul w (N - 2) m, mul_comm m w) in
        let none : er q ≡ 0 = ap er (sym there) ∙ er-right (r + (N - 2) * m) (right (N - 2) (omega arith)) in (
          mark p,
          answers-taken p q inside e (f.0 ∙ sym (ap (λ (x : ℕ). x % 2 ^ (n - 1)) none ∙ zero-mod (2 ^ (n - 1)))),
          f.1,
        )

  -- ---- bursts

  module _ (apart : WrongApart R C m (m * (N - 1)) count) where
    -- of two blocks of a stream, at most N − 1 apart, one is right
    stream-apart : (r last : ℕ) → r + last * m < count → (i d : ℕ) → 1 ≤ d → d ≤ N - 1 → i + d < suc last
        → (er (r + i * m) ≡ 0) ⊎ (er (r + (i + d) * m) ≡ 0)
    stream-apart r last inside i d from to h =
        go (eq-zero-or-pos (er (r + i * m))) (eq-zero-or-pos (er (r + (i + d) * m)))
      where
        long : r + (i + d) * m ≡ r + i * m + d * m
        long = omega (arith, add-mul i d m)

        least : m ≤ d * m
        least = omega (arith, mul-le-mul_right m from, one-mul m)

        most : d * m ≤ m * (N - 1)
        most = omega (arith, mul-le-mul_right m to, mul_comm m (N - 1))

        never : (r + (i + d) * m < r + i * m + m) ⊎ (r + i * m + m * (N - 1) < r + (i + d) * m) → ⊥
        never (inl z) = let a = long in let b = least in omega arith
        never (inr z) = let a = long in let b = most in omega arith

        go : ((er (r + i * m) ≡ 0) ⊎ (0 < er (r + i * m))) → ((er (r + (i + d) * m) ≡ 0) ⊎ (0 < er (r + (i + d) * m)))
            → (er (r + i * m) ≡ 0) ⊎ (er (r + (i + d) * m) ≡ 0)
        go (inl z) b = inl z
        go (inr z) (inl y) = inr y
        go (inr z) (inr y) =
            let some = l.m_from in
            let a = long in
            let b = least in
            absurd (never (apart (r + i * m) (r + (i + d) * m) (omega arith)
            (place-earlier m r last (i + d) count inside (omega arith)) (er-wrong (r + i * m) z)
            (er-wrong (r + (i + d) * m) y)))

    -- The first `start` blocks of each stream are right, and then both its words are 0.
    module _ (start : ℕ) (right : (p : ℕ) → p < start * m → p < count → R p ≡ C p)
        (clean : (r : ℕ) → r < m → r + start * m < count → (jt (r + start * m) ≡ 0) × (sy (r + start * m) ≡ 0)) where
      -- at place p the error of the place m × (N − 1) before is found, or 0 if there is no such place
      found_at : (p x : ℕ) → p < count → start * m ≤ p → ((q : ℕ) → q + m * (N - 1) ≡ p → er q ≡ x)
          → (p < m * (N - 1) → x ≡ 0)
          → (error_of (found rows (reg p)) ≡ x) × NotDoubtful (found rows (reg p)) (reg p)
      found_at p x h late leaves none =
          let some = l.m_from in
          let r = p % m in
          let k = p / m in
          let w = N - 1 in
          let first : r < m = mod-lt p (omega arith) in
          let whole = div-add-mod' p m in
          let here : r + k * m ≡ p = omega arith in
          let inside : r + k * m < count = omega arith in
          let from : start ≤ k = (le-div_iff_mul-le {k = m} (omega arith)).1 late in
          let begin : r + start * m < count = omega (arith, mul-le-mul_right m from) in
          let z = clean r first begin in
          let out = stream_judged (stream r k inside) (stream-apart r k inside) start (omega arith)
          (mid_clean (stream r k inside) start z.0 z.1
          (λ i d e b ne.
          let next : suc i ≤ start = omega arith in
          let room : r + i * m < start * m = omega (arith, mul-le-mul_right m next, suc-mul i m) in
          er-right (r + i * m) (right (r + i * m) room (omega arith))))
          k x from (omega arith)
          (λ i e. leaves (r + i * m) (omega (arith, ap (λ (y : ℕ). y * m) e, add-mul i w m, mul_comm m w)))
          (λ few. none (omega (arith, mul-le-mul_right m few, suc-mul k m, mul_comm m w))) in
          let same = register-at r k p inside here in (
            ap (λ (y : ℕ). error_of (found rows y)) (sym same) ∙ out.0,
            subst (λ (y : ℕ). NotDoubtful (found rows y) y) same out.1,
          )

      pub delivers : (p q : ℕ) → p < count → start * m ≤ p → q + m * (N - 1) ≡ p → Tells (A p) (B q) (er q)
      delivers p q h late e =
          let f = found_at p (er q) h late (λ i d. ap er (let same : i ≡ q = omega arith in same))
          (λ few. absurd (omega arith)) in (
            mark p,
            answers-taken p q h e (ap (λ (x : ℕ). x % 2 ^ (n - 1)) f.0),
            f.1 weight,
            mark-error weight (found rows (reg p)) (reg p) ∙ f.0,
          )

      -- a block of the first memory leaves as it is
      pub delivers_first : (p : ℕ) → p < count → start * m ≤ p → p < m * (N - 1) → m * (N - 1) ≤ fill_of (S p)
          → Sure (A p) (get_or (S 0) (stream_in N ((turn_of (S 0) + p) % m) + 2 + p / m) 0)
      delivers_first p h late early full =
          let f = found_at p 0 h late (λ q e. absurd (omega arith)) (λ few. refl) in (
            mark p,
            answers p 0 (get_or (S 0) (stream_in N ((turn_of (S 0) + p) % m) + 2 + p / m) 0) h full
                (ap (λ (x : ℕ). x % 2 ^ (n - 1)) f.0)
                (ap (λ (y : ℕ). dl 0 p ⊕ y) (zero-mod (2 ^ (n - 1))) ∙ xor_zero_r (dl 0 p)
                ∙ oldest_first l.decoding p h early),
            f.1 weight,
          )

    -- the first 2 × (N − 2) blocks of each stream are right
    found-short : ((p : ℕ) → p < 2 * (m * (N - 2)) → p < count → R p ≡ C p) → (p q : ℕ) → p < count
        → 2 * (m * (N - 1)) ≤ p → q + m * (N - 1) ≡ p → Finds p (er q) × NotDoubtful (found rows (reg p)) (reg p)
    found-short right p q h late e =
        let from = l.N_from in
        let some = l.m_from in
        let w = N - 1 in
        let r = p % m in
        let k = p / m in
        let i = k - w in
        let first : r < m = mod-lt p (omega arith) in
        let here : r + k * m ≡ p = omega (arith, div-add-mod' p m) in
        let inside : r + k * m < count = omega arith in
        let twice : (w + w) * m ≤ p = omega (arith, add-mul w w m, mul_comm m w) in
        let past : w + w ≤ k = (le-div_iff_mul-le {k = m} (omega arith)).1 twice in
        let back : i + w ≡ k = omega arith in
        let there : r + i * m ≡ q =
        omega (arith, ap (λ (x : ℕ). x * m) back, add-mul i w m, mul_comm m w) in
        let long = span_from n l.n_from infos l.size l.code (omega arith) in
        let short = 2 * (N - 2) in
        let out = short_judged n w infos l.n_from l.size l.code (stream r k inside) (joint-lt r k inside)
        (syndrome_lt r k inside) (stream-apart r k inside) long short (omega arith)
        (λ b c d.
        let next : suc b ≤ short = omega arith in
        let early : r + b * m < 2 * (m * (N - 2)) =
        omega (arith, mul-le-mul_right m next, suc-mul b m, mul_assoc 2 (N - 2) m, mul_comm m (N - 2)) in
        er-right (r + b * m) (right (r + b * m) early (place-earlier m r k b count inside (omega arith))))
        (omega arith) k i (omega arith) (omega arith) back in
        let same = register-at r k p inside here in (
          ap (λ (x : ℕ). error_of (found rows x) % 2 ^ (n - 1)) (sym same) ∙ parity_alike n _ _ out.0
              ∙ ap (λ (x : ℕ). er x % 2 ^ (n - 1)) there,
          subst (λ (x : ℕ). NotDoubtful (found rows x) x) same out.1,
        )

    pub recovers : ((p : ℕ) → p < 2 * (m * (N - 2)) → p < count → R p ≡ C p) → (p q : ℕ) → p < count
        → 2 * (m * (N - 1)) ≤ p → q + m * (N - 1) ≡ p → Sure (A p) (B q)
    recovers right p q h late e =
        let f = found-short right p q h late e in
        (mark p, answers-taken p q h e f.0, f.1 weight)

  -- streams that are clean in the first memory are so at their first turn
  pub clean_first : ((k : ℕ) → k < m → get_or (S 0) (stream_in N k + 1) 0 ≡ 0)
      → ((d : ℕ) → d < m
      → get_or (S 0) (stream_in N ((turn_of (S 0) + d) % m)) 0 ≡ pending_at (M 0) ((turn_of (M 0) + d) % m))
      → (r : ℕ) → r < m → r + 0 * m < count → (jt (r + 0 * m) ≡ 0) × (sy (r + 0 * m) ≡ 0)
  clean_first syndromes pendings r first inside =
      let some = l.m_from in
      let here = place-first m r in
      let h : r < count = omega arith in
      subst (λ (p : ℕ). (jt p ≡ 0) × (sy p ≡ 0)) (sym here) (
        ap (λ (x : ℕ). x ⊕ pc r) (pending_first l.decoding r first h ∙ pendings r first
            ∙ sym (coder_first l.coding r first h)) ∙ xor_self (pc r),
        syndrome_first l.decoding r first h
            ∙ syndromes ((turn_of (S 0) + r) % m) (mod-lt (turn_of (S 0) + r) (omega arith)),
      )
