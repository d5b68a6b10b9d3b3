-- What a decoder step that is taken does to each word, as records over n, N, m and the information's rows. Assumes
-- nothing.
--
--   stream_in, pending_in, syndrome_in, delayed_in, register_in   words of the turn's stream, and the register
--   DecoderTaken, decoder-taken   what the tests of a step that is taken say
--   decoder-ready                 what they say of the table alone, and of the memory alone
--   DecoderStep, decoder_step     what the step does
--   decoder-length                the length stays
--   Verdict, decoder-verdict      what the decoder judges by: raw term, register and the error found
use mathlib.Core.Path.{◌≡◌, refl, sym, ap, ap₂, ◌∙◌}
use mathlib.Core.Bool.{Bool, true, false, cond, not, xor}
use mathlib.Core.Logic.{◌≢◌}
use mathlib.Core.List.{List, [], ◌∷◌, ◌++◌}
use Prim.Native.Nat.{ℕ, suc, ◌+◌, ◌-◌, ◌*◌, ◌/◌, ◌%◌, ◌^◌, ◌≤◌, ◌<◌}
use native.Mathlib.Nat.{add-zero, mul-le-mul_right, suc-mul}
use native.Mathlib.Decide.{dec_lt}
use native.Mathlib.Omega.{arith}
use borrow.Author.Tests.{lt-ltb, le-ltb}
use lib.Dec.{leb, ltb, eqb}
use lib.ListN.{length, get_or, set, take, drop, length-append, length-set, length-drop, get_or-append}
use lib.Seq.{get_or-set_same, get_or-set_other, length-take-le, get_or-append-add, get_or-take, get_or-drop, get_or_at}
use Rattle.link.specs.declared.decode.Delivered.{Delivered}
use Rattle.std.specs.Prelude.{Option, Some, None, Ok}
use Rattle.span.specs.Word.{◌⊕◌, odd, bit, digit}
use Rattle.tables.specs.declared.table.Table.{Table}
use Rattle.tables.specs.Table.{fit, info_rows}
use Rattle.tables.proofs.Fit.{Fits}
use Rattle.link.specs.Memory.{joining, next_turn, turn_of, decoder_words, fill_of, delay_of}
use Rattle.link.specs.Memory.{fill_next}
use Rattle.link.specs.Step.{raw_term, found, error_of, kept_of, mark_of}
use Rattle.link.specs.Refusals.{Answer, decoder_malformed, decoder_fault, refused}
use Rattle.link.specs.Fit.{Ready}
use Rattle.link.specs.Decoder.{decode_answer, decode_memory, record_numbers, decode_numbers, decode_values, Decodes}
use Rattle.link.specs.Decoder.{decoder_joining, decoder_register, decoder_found, part_next, stream_replaced}
use Rattle.link.specs.Decoder.{decoder_next, delivered, delivery}
use Rattle.link.proofs.Malformed.{Fine, fine-decoder}
use Rattle.link.proofs.Refusals.{picked, passed, step_fault_lem, step_passed, refuses, takes, call-numbers, numbered}
use Rattle.link.proofs.Refusals.{decoder-range, number_12}

abbrev pub stream_in : ℕ → ℕ → ℕ
stream_in N k = 2 + k * (N + 1)

-- the words of the turn's stream, and the register of a step on that memory
abbrev pub pending_in : ℕ → List ℕ → ℕ
pending_in N s = get_or s (stream_in N (turn_of s)) 0

abbrev pub syndrome_in : ℕ → List ℕ → ℕ
syndrome_in N s = get_or s (stream_in N (turn_of s) + 1) 0

abbrev pub delayed_in : ℕ → List ℕ → ℕ → ℕ
delayed_in N s i = get_or s (stream_in N (turn_of s) + 2 + i) 0

abbrev pub register_in : ℕ → ℕ → List ℕ → List ℕ → ℕ → ℕ
register_in n N infos s r =
    syndrome_in N s
    + digit (xor (odd (joining infos (pending_in N s) (r % 2 ^ (n - 1)))) (bit (n - 1) r)) * 2 ^ (N - 1)

pub record DecoderStep (n N m : ℕ) (infos : List ℕ) (s : List ℕ) (r : ℕ) (answer : Answer (Option Delivered)) (after : List ℕ)
    : Type 0 where
  pub fits : Fits n N m infos
  pub turn_lt : turn_of s < m
  pub pending_lt : pending_in N s < 2 ^ (N - 1)
  pub syndrome_lt : syndrome_in N s < 2 ^ (N - 1)
  pub block_lt : r < 2 ^ n
  pub turn_on : turn_of after ≡ next_turn m (turn_of s)
  pub fill_on : fill_of after ≡ cond (ltb (fill_of s) (m * (N - 1))) (fill_of s + 1) (fill_of s)
  pub pending_on : get_or after (stream_in N (turn_of s)) 0 ≡ joining infos (pending_in N s) (r % 2 ^ (n - 1)) / 2
  pub syndrome_on : get_or after (stream_in N (turn_of s) + 1) 0
      ≡ kept_of (found (infos ++ (1 ∷ [])) (register_in n N infos s r)) (register_in n N infos s r)
  pub delayed_on : (i : ℕ) → suc i < N - 1 → get_or after (stream_in N (turn_of s) + 2 + i) 0 ≡ delayed_in N s (suc i)
  pub youngest : (i : ℕ) → suc i ≡ N - 1 → get_or after (stream_in N (turn_of s) + 2 + i) 0 ≡ r % 2 ^ (n - 1)
  pub others : (k j : ℕ) → k < m → j < N + 1 → k ≢ turn_of s
      → get_or after (stream_in N k + j) 0 ≡ get_or s (stream_in N k + j) 0
  pub waits : fill_of s < m * (N - 1) → answer ≡ Ok None
  pub answers : m * (N - 1) ≤ fill_of s → answer
      ≡ Ok (Some (record {
        info = delayed_in N s 0 ⊕ error_of (found (infos ++ (1 ∷ [])) (register_in n N infos s r)) % 2 ^ (n - 1);
        mark =
            mark_of (2 ^ (n - 1)) (found (infos ++ (1 ∷ [])) (register_in n N infos s r)) (register_in n N infos s r);
      }))

-- a part of a list put in place of another of its length
module _ (s part : List ℕ) (at long : ℕ) (size : length part ≡ long) (room : at + long ≤ length s) where
  abbrev replaced : List ℕ
  replaced = take at s ++ (part ++ drop (at + long) s)

  front : length (take at s) ≡ at
  front = length-take-le at s (omega arith)

  replaced-length : length replaced ≡ length s
  replaced-length =
      let a = length-append (take at s) (part ++ drop (at + long) s) in
      let b = length-append part (drop (at + long) s) in
      let c = length-drop (at + long) s in
      let d = front in
      omega arith

  replaced-in : (j : ℕ) → j < long → get_or replaced (at + j) 0 ≡ get_or part j 0
  replaced-in j h =
      ap (λ (k : ℕ). get_or replaced (k + j) 0) (sym front)
      ∙ get_or-append-add (take at s) (part ++ drop (at + long) s) j 0
      ∙ get_or-append part (drop (at + long) s) 0 j (omega arith)

  replaced-below : (i : ℕ) → i < at → get_or replaced i 0 ≡ get_or s i 0
  replaced-below i h =
      get_or-append (take at s) (part ++ drop (at + long) s) 0 i (rw front h) ∙ get_or-take at s i 0 h

  replaced-above : (q : ℕ) → get_or replaced (at + (long + q)) 0 ≡ get_or s (at + long + q) 0
  replaced-above q =
      ap₂ (λ (k j : ℕ). get_or replaced (k + (j + q)) 0) (sym front) (sym size)
      ∙ get_or-append-add (take at s) (part ++ drop (at + long) s) (length part + q) 0
      ∙ get_or-append-add part (drop (at + long) s) q 0
      ∙ get_or-drop (at + long) s q 0

  replaced-beyond : (i : ℕ) → at + long ≤ i → get_or replaced i 0 ≡ get_or s i 0
  replaced-beyond i h =
      ap (λ (k : ℕ). get_or replaced k 0) (let e : i ≡ at + (long + (i - (at + long))) = omega arith in e)
      ∙ replaced-above (i - (at + long))
      ∙ ap (λ (k : ℕ). get_or s k 0) (let e : at + long + (i - (at + long)) ≡ i = omega arith in e)

-- the memory after a step: the stream's part anew, and turn and fill
module _ (N m : ℕ) (s : List ℕ) (pending syndrome young fill to : ℕ) (from : 2 ≤ N) (size : length s ≡ 2 + m * (N + 1))
    (turn : turn_of s < m) where
  abbrev at : ℕ
  at = stream_in N (turn_of s)

  abbrev moved : List ℕ
  moved = drop (at + 3) (take (at + (N + 1)) s)

  abbrev part : List ℕ
  part = pending ∷ syndrome ∷ (moved ++ (young ∷ []))

  abbrev body : List ℕ
  body = take at s ++ (part ++ drop (at + (N + 1)) s)

  abbrev after : List ℕ
  after = set (set body 1 fill) 0 to

  part_room_lem : at + (N + 1) ≤ length s
  part_room_lem = omega (arith, mul-le-mul_right (N + 1) turn, suc-mul (turn_of s) (N + 1))

  moved_length : length moved ≡ N - 2
  moved_length =
      let a = length-drop (at + 3) (take (at + (N + 1)) s) in
      let b = length-take-le (at + (N + 1)) s part_room_lem in
      omega arith

  part_length : length part ≡ N + 1
  part_length =
      let a = length-append moved (young ∷ []) in
      let b = moved_length in
      omega arith

  body-length : length body ≡ length s
  body-length = replaced-length s part at (N + 1) part_length part_room_lem

  after-word : (i : ℕ) → 2 ≤ i → get_or after i 0 ≡ get_or body i 0
  after-word i h =
      get_or-set_other (set body 1 fill) 0 i to 0 (λ (z : i ≡ 0). omega arith)
      ∙ get_or-set_other body 1 i fill 0 (λ (z : i ≡ 1). omega arith)

  after_turn : get_or after 0 0 ≡ to
  after_turn =
      let b = body-length in
      get_or-set_same (set body 1 fill) 0 to 0 (rw (length-set body 1 fill) (omega arith))

  after-fill : get_or after 1 0 ≡ fill
  after-fill =
      let b = body-length in
      get_or-set_other (set body 1 fill) 0 1 to 0 (λ (z : 1 ≡ 0). omega arith)
      ∙ get_or-set_same body 1 fill 0 (omega arith)

  after-own : (j : ℕ) → j < N + 1 → get_or after (at + j) 0 ≡ get_or part j 0
  after-own j h = after-word (at + j) (omega arith) ∙ replaced-in s part at (N + 1) part_length part_room_lem j h

  after-moved : (i : ℕ) → suc i < N - 1 → get_or after (at + 2 + i) 0 ≡ get_or s (at + 2 + suc i) 0
  after-moved i h =
      let b = moved_length in
      ap (λ (k : ℕ). get_or after k 0) (let e : at + 2 + i ≡ at + suc (suc i) = omega arith in e)
      ∙ after-own (suc (suc i)) (omega arith)
      ∙ get_or-append moved (young ∷ []) 0 i (omega arith)
      ∙ get_or-drop (at + 3) (take (at + (N + 1)) s) i 0
      ∙ get_or-take (at + (N + 1)) s (at + 3 + i) 0 (omega arith)
      ∙ ap (λ (k : ℕ). get_or s k 0) (let e : at + 3 + i ≡ at + 2 + suc i = omega arith in e)

  after-young : (i : ℕ) → suc i ≡ N - 1 → get_or after (at + 2 + i) 0 ≡ young
  after-young i h =
      let b = moved_length in
      ap (λ (k : ℕ). get_or after k 0) (let e : at + 2 + i ≡ at + suc (suc i) = omega arith in e)
      ∙ after-own (suc (suc i)) (omega arith)
      ∙ get_or_at moved young [] 0 i (omega arith)

  after-others : (k j : ℕ) → k < m → j < N + 1 → k ≢ turn_of s
      → get_or after (stream_in N k + j) 0 ≡ get_or s (stream_in N k + j) 0
  after-others k j h l ne = after-word (stream_in N k + j) (omega arith) ∙ go (dec_lt k (turn_of s))
    where
      go : Dec (k < turn_of s) → get_or body (stream_in N k + j) 0 ≡ get_or s (stream_in N k + j) 0
      go (yes b) =
          replaced-below s part at (N + 1) part_length part_room_lem (stream_in N k + j)
          (omega (arith, mul-le-mul_right (N + 1) b, suc-mul k (N + 1)))
      go (no b) =
          let above : turn_of s < k = omega arith in
          replaced-beyond s part at (N + 1) part_length part_room_lem (stream_in N k + j)
          (omega (arith, mul-le-mul_right (N + 1) above, suc-mul (turn_of s) (N + 1)))

-- ---- refusals

pub decoder-fault : (t : Table) (s : List ℕ) (r : ℕ)
    → decoder_fault t s r
    ≡ cond (not (fit t)) 12 (cond (not (eqb (length s) (decoder_words t))) 13
    (cond (decoder_malformed t s) 14 (cond (leb (2 ^ t.symbols) r) 15 0)))
unfolding decoder_fault
decoder-fault t s r = step_fault_lem t (decoder_words t) (decoder_malformed t s) (2 ^ t.symbols) s r

pub decode-refuses : (t : Table) (s : List ℕ) (r : ℕ) (k : ℕ) → decoder_fault t s r ≡ k → 0 < k
    → (refused k ≡ decode_answer t s r) × (s ≡ decode_memory t s r)
unfolding decode_answer decode_memory
decode-refuses t s r = refuses refused (decoder_fault t s r) (delivery t s r) (decoder_next t s r) s

pub decodes : (t : Table) (s : List ℕ) (r : ℕ) → decoder_fault t s r ≡ 0
    → (delivery t s r ≡ decode_answer t s r) × (decoder_next t s r ≡ decode_memory t s r)
unfolding decode_answer decode_memory
decodes t s r = takes refused (decoder_fault t s r) (delivery t s r) (decoder_next t s r) s

delivery-numbers : (t : Table) (s : List ℕ) (r : ℕ) → decode_numbers (delivery t s r) ≡ 0 ∷ decode_values t s r
unfolding delivery
delivery-numbers t s r = go (ltb (fill_of s) (delay_of t))
  where
    go : (b : Bool)
        → decode_numbers (cond b (Ok None) (Ok (Some (delivered t s r))))
        ≡ 0 ∷ cond b (0 ∷ 0 ∷ 0 ∷ []) (record_numbers (delivered t s r))
    go true = refl
    go false = refl

-- answer and memory are all that is promised: the numbers follow
pub decodes-so : (t : Table) (s : List ℕ) (b : ℕ) (r : Answer (Option Delivered)) (left : List ℕ) → r ≡ decode_answer t s b
    → left ≡ decode_memory t s b
    → Decodes t s b r left
unfolding decode_answer
decodes-so t s b r left p q = record {
  answer = p;
  memory = q;
  numbers = ap decode_numbers p
      ∙ call-numbers decode_numbers (decoder_fault t s b) (delivery t s b) refused (decode_values t s b)
      (delivery-numbers t s b) (λ some. numbered (decoder_fault t s b) (decoder-range t s b some));
}

-- 12, and no other
pub decode-unfit : (t : Table) (s : List ℕ) (r : ℕ) → fit t ≡ false → decoder_fault t s r ≡ 12
unfolding decoder_fault
decode-unfit t s r = number_12 t (decoder_words t) (decoder_malformed t s) (2 ^ t.symbols) s r

-- ---- a step that is taken

-- what the tests of a step that is taken say
pub record DecoderTaken (t : Table) (s : List ℕ) (r : ℕ) : Type 0 where
  pub sizes : Fits t.symbols t.span t.depth (info_rows t)
  pub size : length s ≡ 2 + t.depth * (t.span + 1)
  pub fine : Fine t s (turn_of s)
  pub block : r < 2 ^ t.symbols

pub decoder-taken : (t : Table) (s : List ℕ) (r : ℕ) → decoder_fault t s r ≡ 0 → DecoderTaken t s r
unfolding decoder_fault
decoder-taken t s r e =
    let p = step_passed t (decoder_words t) (decoder_malformed t s) (2 ^ t.symbols) s r e in
    record { sizes = p.sizes; size = p.size; fine = fine-decoder t s p.formed; block = p.block }

pub decoder-ready : (t : Table) (s : List ℕ) (r : ℕ) → decoder_fault t s r ≡ 0 → (fit t ≡ true) × Ready t s
unfolding decoder_fault
decoder-ready t s r e =
    let p = step_passed t (decoder_words t) (decoder_malformed t s) (2 ^ t.symbols) s r e in
    (p.fits, record { size = p.size; formed = p.formed })

-- with the part in its place the memory is as long as it was, and turn and fill are as they were
pub replaced-front : (t : Table) (s : List ℕ) (r : ℕ) → DecoderTaken t s r
    → (length (stream_replaced t s r) ≡ length s) × (turn_of (stream_replaced t s r) ≡ turn_of s)
    × (fill_of (stream_replaced t s r) ≡ fill_of s)
unfolding part_next
replaced-front t s r k =
    let room =
    part_room_lem t.span t.depth s (decoder_joining t s r / 2) (kept_of (decoder_found t s r) (decoder_register t s r))
    (r % 2 ^ (t.symbols - 1)) 0 0 k.sizes.N_from k.size k.fine.turn in
    let size =
    part_length t.span t.depth s (decoder_joining t s r / 2) (kept_of (decoder_found t s r) (decoder_register t s r))
    (r % 2 ^ (t.symbols - 1)) 0 0 k.sizes.N_from k.size k.fine.turn in
    let at = stream_in t.span (turn_of s) in (
      replaced-length s (part_next t s r) at (t.span + 1) size room,
      replaced-below s (part_next t s r) at (t.span + 1) size room 0 (omega arith),
      replaced-below s (part_next t s r) at (t.span + 1) size room 1 (omega arith),
    )

pub decoder_step : (t : Table) (s : List ℕ) (r : ℕ) → decoder_fault t s r ≡ 0
    → DecoderStep t.symbols t.span t.depth (info_rows t) s r (delivery t s r) (decoder_next t s r)
unfolding decoder_next part_next delivery delivered decoder_found decoder_register decoder_joining
decoder_step t s r e = record {
  fits = k.sizes;
  turn_lt = k.fine.turn;
  pending_lt = k.fine.pending;
  syndrome_lt = k.fine.syndrome;
  block_lt = k.block;
  turn_on = after_turn N t.depth s pending syndrome young fill to k.sizes.N_from k.size k.fine.turn;
  fill_on = after-fill N t.depth s pending syndrome young fill to k.sizes.N_from k.size k.fine.turn;
  pending_on =
      ap (λ (i : ℕ). get_or (decoder_next t s r) i 0) (sym (add-zero (stream_in N (turn_of s))))
      ∙ after-own N t.depth s pending syndrome young fill to k.sizes.N_from k.size
      k.fine.turn 0 (omega arith);
  syndrome_on =
      after-own N t.depth s pending syndrome young fill to k.sizes.N_from k.size k.fine.turn 1
      (let h = k.sizes.N_from in omega arith);
  delayed_on = after-moved N t.depth s pending syndrome young fill to k.sizes.N_from k.size k.fine.turn;
  youngest = after-young N t.depth s pending syndrome young fill to k.sizes.N_from k.size k.fine.turn;
  others = after-others N t.depth s pending syndrome young fill to k.sizes.N_from k.size k.fine.turn;
  waits =
      λ h. sym
      (picked (ltb (fill_of s) (delay_of t)) (Ok None) (Ok (Some (delivered t s r))) (lt-ltb (fill_of s) (delay_of t) h));
  answers =
      λ h. sym
      (passed (ltb (fill_of s) (delay_of t)) (Ok None) (Ok (Some (delivered t s r))) (le-ltb (fill_of s) (delay_of t) h));
}
  where
    k : DecoderTaken t s r
    k = decoder-taken t s r e

    N : ℕ
    N = t.span

    pending : ℕ
    pending = decoder_joining t s r / 2

    syndrome : ℕ
    syndrome = kept_of (decoder_found t s r) (decoder_register t s r)

    young : ℕ
    young = r % 2 ^ (t.symbols - 1)

    fill : ℕ
    fill = fill_next t (fill_of s)

    to : ℕ
    to = next_turn t.depth (turn_of s)

pub decoder-length : (t : Table) (s : List ℕ) (r : ℕ) → decoder_fault t s r ≡ 0 → length (decoder_next t s r) ≡ length s
unfolding decoder_next
decoder-length t s r e = simp length-set (replaced-front t s r (decoder-taken t s r e)).0

pub record Verdict (n N : ℕ) (infos : List ℕ) (s : List ℕ) (r : ℕ) (raw : Bool) (register : ℕ) (error : Option ℕ)
    : Type 0 where
  pub raw_is : raw ≡ xor (odd (joining infos (pending_in N s) (r % 2 ^ (n - 1)))) (bit (n - 1) r)
  pub register_is : register ≡ register_in n N infos s r
  pub found_is : error ≡ found (infos ++ (1 ∷ [])) (register_in n N infos s r)

pub decoder-verdict : (t : Table) (s : List ℕ) (r : ℕ)
    → Verdict t.symbols t.span (info_rows t) s r (raw_term (decoder_joining t s r) t.symbols r)
    (decoder_register t s r) (decoder_found t s r)
unfolding decoder_found decoder_register decoder_joining
decoder-verdict t s r = record { raw_is = refl; register_is = refl; found_is = refl }
