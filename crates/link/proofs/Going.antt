-- A turn of the decoder's loops over the blocks of a batch. Assumes nothing.
--
--   Going, going_start   where a loop has come to: the blocks taken, the streams seen, and the memory's length
--   Turn                 a turn: the loop so far, a fit table, and a block that is there
--   turn_declined        the block is refused
--   turn_taken           no refusal applies
--   turn_ready           the memory is what a step asks for
--   turn_next            its step is taken
--   come-all             the same of a batch that is known to have come so far
--   decode-size          a batch has no more entries than room
--   going_all            no block or no room is left
use mathlib.Core.Path.{◌≡◌, refl, sym, ap, subst, ◌∙◌}
use mathlib.Core.Bool.{Bool, true, false, cond, ◌&&◌, ◌||◌}
use mathlib.Core.List.{List, [], ◌∷◌}
use Prim.Native.Nat.{ℕ, suc, ◌+◌, ◌^◌, ◌≤◌, ◌<◌, min}
use native.Mathlib.Decide.{dec_lt}
use native.Mathlib.Omega.{arith}
use borrow.Author.Tests.{lt-ltb}
use lib.Dec.{leb, ltb}
use lib.ListN.{length, get_or, set}
use Rattle.tables.specs.declared.table.Table.{Table}
use Rattle.tables.specs.Table.{fit}
use Rattle.tables.proofs.Fit.{fit-facts}
use Rattle.link.specs.Fit.{Ready}
use Rattle.link.specs.Memory.{decoder_words}
use Rattle.link.specs.Refusals.{decoder_malformed, decoder_fault}
use Rattle.link.specs.Decoder.{decode_answer, decode_memory, decoder_next, delivery}
use Rattle.link.specs.Batch.{batch, decode_entries, decode_batch, Fills, Reached}
use Rattle.link.proofs.Refusals.{step_settled, or-none}
use Rattle.link.proofs.Malformed.{decoder-fine}
use Rattle.link.proofs.Decoder.{decodes, decoder-length}
use Rattle.link.proofs.Batch.{batch_size}
use Rattle.link.proofs.Reached.{reached_start, reached_next, reached_refused, reached_all}
use Rattle.link.proofs.Entries.{decoded_none, decoded_one}
use Rattle.link.proofs.Seen.{Seen, seen_start, seen-now, seen_next}

module _ (u : Table) (before bs out : List ℕ) where
  abbrev entries : List ℕ → ℕ → List ℕ
  entries s r = decode_entries (decode_answer u s r)

  pub record Going (i : ℕ) (s out' : List ℕ) : Type 0 where
    pub reached : Reached (batch entries (decode_memory u)) before bs out i s out'
    pub seen : Seen u s i
    pub size : length s ≡ length before

  pub going_start : Going 0 before out
  going_start = record {
    reached = reached_start entries (decode_memory u) before bs out;
    seen = seen_start u before;
    size = refl;
  }

  module _ (i : ℕ) (s out' : List ℕ) (g : Going i s out') where
    pub going_all : min (length bs) (length out) ≤ i → Fills (decode_batch u (length out) before bs) out i s out'
    unfolding decode_batch
    going_all = reached_all entries (decode_memory u) before bs out i s out' g.reached

    module _ (f : fit u ≡ true) (size : length before ≡ decoder_words u) (left : i < length bs) where
      abbrev r : ℕ
      r = get_or bs i 0

      settled : (p q : Bool) → decoder_malformed u s ≡ p → leb (2 ^ u.symbols) r ≡ q
          → decoder_fault u s r ≡ cond p 14 (cond q 15 0)
      unfolding decoder_fault
      settled =
          step_settled u (decoder_words u) (decoder_malformed u s) (2 ^ u.symbols) s r f (g.size ∙ size)

      refused : (k : ℕ) → decoder_fault u s r ≡ k → 0 < k → Fills (decode_batch u (length out) before bs) out i s out'
      unfolding decode_batch
      refused k e some =
          reached_refused entries (decode_memory u) before bs out i s out' g.reached left
          (decoded_none u s r k e some)

      -- a stream that is not looked at was seen
      fine : (ltb i u.depth && decoder_malformed u s) ≡ false → decoder_malformed u s ≡ false
      fine e = go (dec_lt i u.depth)
        where
          go : Dec (i < u.depth) → decoder_malformed u s ≡ false
          go (yes h) = rw (lt-ltb i u.depth h) at e
          go (no h) =
              let z = fit-facts u f in
              decoder-fine u s (seen-now u s i z.m_from (omega arith) g.seen)

      -- both tests as the code has them: `most` is the largest block
      module _ (most : ℕ) (is : ltb most r ≡ leb (2 ^ u.symbols) r) where
        pub turn_declined : (ltb i u.depth && decoder_malformed u s) || ltb most r ≡ true
            → Fills (decode_batch u (length out) before bs) out i s out'
        turn_declined e = go (ltb i u.depth) (decoder_malformed u s) (ltb most r) refl refl refl e
          where
            go : (p q l : Bool) → ltb i u.depth ≡ p → decoder_malformed u s ≡ q → ltb most r ≡ l
                → (p && q) || l ≡ true → Fills (decode_batch u (length out) before bs) out i s out'
            go p true l h k m z = refused 14 (settled true (leb (2 ^ u.symbols) r) k refl) (omega arith)
            go true false l h k m z = refused 15 (settled false true k (sym is ∙ m ∙ z)) (omega arith)
            go false false l h k m z = refused 15 (settled false true k (sym is ∙ m ∙ z)) (omega arith)

        pub turn_taken : (ltb i u.depth && decoder_malformed u s) || ltb most r ≡ false → decoder_fault u s r ≡ 0
        turn_taken e =
            let t = or-none (ltb i u.depth && decoder_malformed u s) (ltb most r) e in
            settled false false (fine t.0) (sym is ∙ t.1)

        pub turn_ready : (ltb i u.depth && decoder_malformed u s) || ltb most r ≡ false → Ready u s
        turn_ready e = record {
          size = g.size ∙ size;
          formed = fine (or-none (ltb i u.depth && decoder_malformed u s) (ltb most r) e).0;
        }

      pub turn_next : i < length out → decoder_fault u s r ≡ 0 → (after : List ℕ) → after ≡ decoder_next u s r
          → (e : ℕ) → e ∷ [] ≡ decode_entries (delivery u s r) → Going (i + 1) after (set out' i e)
      turn_next room none after m e one = record {
        reached = subst (λ (l : List ℕ).
            Reached (batch entries (decode_memory u)) before bs out (i + 1) l (set out' i e))
            (sym (m ∙ (decodes u s r none).1))
            (reached_next entries (decode_memory u) before bs out i s out' g.reached left room e
            (decoded_one u s r none ∙ sym one));
        seen = subst (λ (l : List ℕ). Seen u l (i + 1)) (sym m)
            (subst (Seen u (decoder_next u s r)) (let z : suc i ≡ i + 1 = omega arith in z)
            (seen_next u s r i none g.seen));
        size = ap length m ∙ decoder-length u s r none ∙ g.size;
      }

-- of a batch that is known to have come so far, and no more
pub come-all : (t : Table) (before bs out : List ℕ) (i : ℕ) (s out' : List ℕ)
    → Reached (decode_batch t) before bs out i s out' → min (length bs) (length out) ≤ i
    → Fills (decode_batch t (length out) before bs) out i s out'
unfolding decode_batch
come-all t = reached_all (λ s r. decode_entries (decode_answer t s r)) (decode_memory t)

pub decode-size : (t : Table) (room : ℕ) (s bs : List ℕ) → length (decode_batch t room s bs).entries ≤ room
unfolding decode_batch
decode-size t room s bs = (batch_size (λ s r. decode_entries (decode_answer t s r)) (decode_memory t) room s bs).0
