-- The premises of recovery of a run that is computed: from the tables of its entries and the places at which its blocks
-- differ, each an equation of lists. Assumes nothing.
--
--   each_at     what is shown of each number below a bound holds of every one
--   tables-by   each entry has the same table
--   Places      what is known of the places of a run
--   running_by, right_by   the premises on tables and steps, and on the guard
--   burst_by, bursts_by   the premise on bursts
use mathlib.Core.Path.{◌≡◌, refl, sym, ap, ap₂, ◌∙◌, subst}
use mathlib.Core.Bool.{Bool, true, false, cond}
use mathlib.Core.Logic.{◌≢◌, ◌⊎◌, inl, inr}
use mathlib.Core.List.{List, [], ◌∷◌, ◌++◌, map}
use Prim.Native.Nat.{ℕ, zero, suc, ◌+◌, ◌-◌, ◌≤◌, ◌<◌}
use native.Mathlib.Nat.{zero-add, add-zero}
use native.Mathlib.Omega.{arith}
use borrow.Author.Tests.{eqb-true, eqb-false}
use lib.Dec.{eqb}
use lib.ListN.{length, get_or, take, drop, replicate, length-map, get_or-map}
use Rattle.tables.specs.declared.table.Table.{Table}
use Rattle.tables.specs.Table.{SameTable}
use Rattle.link.specs.Runs.{Call, Sent, Taken, sent_by, taken_by, none_sent, none_taken, sent_at, taken_at}
use Rattle.link.specs.Recovery.{Origin, Right, Wrong, Stretch, Burst, Chosen, Within, RightFirst, BurstsWithin}
use Rattle.link.specs.Recovery.{Running}
use Rattle.link.specs.Computed.{sent_blocks, taken_blocks, differing}

-- ---- numbers below a bound

-- P of the n numbers from a on
abbrev pub Each : (ℕ → Type 0) → ℕ → ℕ → Type 0
Each P a zero = Unit {0}
Each P a (suc n) = P a × Each P (suc a) n

each_from : (P : ℕ → Type 0) (a n : ℕ) → Each P a n → (k : ℕ) → k < n → P (a + k)
each_from P a zero e k h = absurd (omega arith)
each_from P a (suc n) e zero h = subst P (sym (add-zero a)) e.0
each_from P a (suc n) e (suc k) h = subst P (omega arith) (each_from P (suc a) n e.1 k (omega arith))

pub each_at : (P : ℕ → Type 0) (n : ℕ) → Each P 0 n → (k : ℕ) → k < n → P k
each_at P n e k h = subst P (zero-add k) (each_from P 0 n e k h)

-- ---- tables

-- all of a table that counts
abbrev pub key : ℕ → Table → List ℕ
key rows u = u.symbols ∷ u.span ∷ u.depth ∷ take rows u.rows

key-same : (u t : Table) → key (t.symbols - 1) u ≡ key (t.symbols - 1) t → SameTable u t
key-same u t e = record {
  symbols = ap (λ (l : List ℕ). get_or l 0 0) e;
  span = ap (λ (l : List ℕ). get_or l 1 0) e;
  depth = ap (λ (l : List ℕ). get_or l 2 0) e;
  rows = ap (λ (l : List ℕ). drop 3 l) e;
}

all_alike : {X Y : Type 0} (f : X → Y) (v : Y) (d : X) (xs : List X) (count i : ℕ) → map f xs ≡ replicate count v
    → i < length xs → f (get_or xs i d) ≡ v
all_alike f v d [] count i e h = absurd (omega arith)
all_alike f v d (x ∷ xs) zero i e h = let z : suc (length (map f xs)) ≡ 0 = ap length e in absurd (omega arith)
all_alike f v d (x ∷ xs) (suc count) zero e h = ap (λ l. get_or l 0 v) e
all_alike f v d (x ∷ xs) (suc count) (suc i) e h = all_alike f v d xs count i (ap (λ l. drop 1 l) e) (omega arith)

pub tables-by : {X : Type 0} (table_of : X → Table) (t : Table) (d : X) (xs : List X) (count : ℕ)
    → map (λ x. key (t.symbols - 1) (table_of x)) xs ≡ replicate count (key (t.symbols - 1) t)
    → (p : ℕ) → 1 ≤ p → p ≤ length xs → SameTable (table_of (get_or xs (p - 1) d)) t
tables-by table_of t d xs count e p from to =
    key-same (table_of (get_or xs (p - 1) d)) t
    (all_alike (λ x. key (t.symbols - 1) (table_of x)) (key (t.symbols - 1) t) d xs count (p - 1) e (omega arith))

-- ---- wrong places

abbrev pub In : ℕ → List ℕ → Type 0
In p [] = ⊥
In p (w ∷ ws) = (p ≡ w) ⊎ In p ws

differing-in : (k : ℕ) (xs ys : List ℕ) (i : ℕ) → i < length xs → i < length ys → get_or xs i 0 ≢ get_or ys i 0
    → In (k + i) (differing k xs ys)
unfolding differing
differing-in k [] ys i a b ne = absurd (omega arith)
differing-in k (x ∷ xs) [] i a b ne = absurd (omega arith)
differing-in k (x ∷ xs) (y ∷ ys) zero a b ne = go (eqb x y) refl
  where
    go : (s : Bool) → eqb x y ≡ s → In (k + 0) (cond s [] (k ∷ []) ++ differing (suc k) xs ys)
    go true q = absurd (ne (eqb-true x y q))
    go false q = inl (add-zero k)
differing-in k (x ∷ xs) (y ∷ ys) (suc i) a b ne =
    go (eqb x y) (subst (λ (p : ℕ). In p (differing (suc k) xs ys)) (omega arith)
    (differing-in (suc k) xs ys i (omega arith) (omega arith) ne))
  where
    go : (s : Bool) → In (k + suc i) (differing (suc k) xs ys)
        → In (k + suc i) (cond s [] (k ∷ []) ++ differing (suc k) xs ys)
    go true h = h
    go false h = inr h

-- the blocks xs sent and ys taken, and the places ws at which they differ
pub record Places (coder decoder : List ℕ) (cs ds : List Call) (xs ys ws : List ℕ) : Type 0 where
  pub sent : sent_blocks (sent_by coder cs) ≡ xs
  pub taken : taken_blocks (taken_by decoder ds) ≡ ys
  pub wrong : differing 1 (taken_blocks (taken_by decoder ds)) (sent_blocks (sent_by coder cs)) ≡ ws
  pub many : length ys ≤ length xs

module _ {coder decoder : List ℕ} {cs ds : List Call} {xs ys ws : List ℕ}
    (k : Places coder decoder cs ds xs ys ws) where
  pub count : length (taken_by decoder ds) ≡ length ys
  count = sym (length-map (taken_by decoder ds) (λ (x : Taken). x.block)) ∙ ap (λ (l : List ℕ). length l) k.taken

  sent-count : length (sent_by coder cs) ≡ length xs
  sent-count = sym (length-map (sent_by coder cs) (λ (x : Sent). x.block)) ∙ ap (λ (l : List ℕ). length l) k.sent

  taken_at_lem : (p : ℕ) → (taken_at (taken_by decoder ds) p).block ≡ get_or ys (p - 1) 0
  taken_at_lem p =
      sym (get_or-map (λ (x : Taken). x.block) (taken_by decoder ds) (p - 1) none_taken)
      ∙ ap (λ (l : List ℕ). get_or l (p - 1) 0) k.taken

  sent-at : (p : ℕ) → (sent_at (sent_by coder cs) p).block ≡ get_or xs (p - 1) 0
  sent-at p =
      sym (get_or-map (λ (x : Sent). x.block) (sent_by coder cs) (p - 1) none_sent)
      ∙ ap (λ (l : List ℕ). get_or l (p - 1) 0) k.sent

  wrong-at : (p : ℕ) → get_or ys (p - 1) 0 ≢ get_or xs (p - 1) 0 → Wrong (sent_by coder cs) (taken_by decoder ds) p
  wrong-at p ne e = ne (sym (taken_at_lem p) ∙ e ∙ sent-at p)

  wrong-in : (p : ℕ) → 1 ≤ p → p ≤ length (taken_by decoder ds)
      → Wrong (sent_by coder cs) (taken_by decoder ds) p → In p ws
  wrong-in p from to ne =
      let a = count in
      let m = k.many in
      subst (λ (l : List ℕ). In p l) (sym (ap₂ (differing 1) k.taken k.sent) ∙ k.wrong)
      (subst (λ (q : ℕ). In q (differing 1 ys xs)) (let e : 1 + (p - 1) ≡ p = omega arith in e)
      (differing-in 1 ys xs (p - 1) (omega arith) (omega arith) (λ e. ne (taken_at_lem p ∙ e ∙ sym (sent-at p)))))

  right_at : (p : ℕ) → 1 ≤ p → p ≤ length (taken_by decoder ds) → (In p ws → ⊥)
      → Right (sent_by coder cs) (taken_by decoder ds) p
  right_at p from to none = go (eqb a b) refl
    where
      a : ℕ
      a = (taken_at (taken_by decoder ds) p).block

      b : ℕ
      b = (sent_at (sent_by coder cs) p).block

      go : (s : Bool) → eqb a b ≡ s → a ≡ b
      go true q = eqb-true a b q
      go false q = absurd (none (wrong-in p from to (eqb-false a b q)))

  pub running_by : (t : Table) → Origin t
      → map (λ (x : Sent). key (t.symbols - 1) x.table) (sent_by coder cs)
      ≡ replicate (length xs) (key (t.symbols - 1) t)
      → map (λ (x : Taken). key (t.symbols - 1) x.table) (taken_by decoder ds)
      ≡ replicate (length ys) (key (t.symbols - 1) t)
      → Running t coder decoder cs ds
  running_by t origin sentTables takenTables = record {
    origin = origin;
    coder_tables = tables-by (λ (x : Sent). x.table) t none_sent (sent_by coder cs) (length xs) sentTables;
    decoder_tables = tables-by (λ (x : Taken). x.table) t none_taken (taken_by decoder ds) (length ys) takenTables;
    enough = let a = count in let b = sent-count in let m = k.many in omega arith;
  }

  pub right_by : (right : ℕ) → ((p : ℕ) → In p ws → right < p) → RightFirst right (sent_by coder cs) (taken_by decoder ds)
  right_by right late p from early to = right_at p from to (λ i. let z = late p i in omega arith)

  pub burst_by : (long a b : ℕ) → 1 ≤ a → a ≤ b → b < a + long → b ≤ length ys → get_or ys (a - 1) 0 ≢ get_or xs (a - 1) 0
      → get_or ys (b - 1) 0 ≢ get_or xs (b - 1) 0
      → Burst (Wrong (sent_by coder cs) (taken_by decoder ds)) long (length (taken_by decoder ds))
      (record { first = a; last = b })
  burst_by long a b from order short inside u v = record {
    from = from;
    order = order;
    short = short;
    inside = let c = count in omega arith;
    begins = wrong-at a u;
    ends = wrong-at b v;
  }

  pub bursts_by : (long gap : ℕ) (chosen : List Stretch)
      → Chosen (Wrong (sent_by coder cs) (taken_by decoder ds)) long gap (length (taken_by decoder ds)) chosen
      → ((p : ℕ) → In p ws → Within p chosen)
      → BurstsWithin long gap (sent_by coder cs) (taken_by decoder ds)
  bursts_by long gap chosen apart covered =
      record { chosen = chosen; apart = apart; covered = λ p from to ne. covered p (wrong-in p from to ne) }
