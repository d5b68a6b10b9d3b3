-- Starts and steps look at rows 1 to n − 1 only. Assumes nothing.
use mathlib.Core.Path.{◌≡◌, subst}
use mathlib.Core.Bool.{Bool}
use mathlib.Core.List.{List}
use Prim.Native.Nat.{ℕ, ◌+◌, ◌-◌}
use lib.ListN.{take}
use Rattle.tables.specs.declared.table.Table.{Table}
use Rattle.tables.specs.Table.{table, fit}
use Rattle.tables.proofs.Fit.{fit_same}
use Rattle.tables.proofs.Same.{sizes-are}
use Rattle.link.specs.Refusals.{start_fault, step_fault, coder_fault, decoder_fault}
use Rattle.link.specs.Start.{start_answer, start_memory}
use Rattle.link.specs.Coder.{coder_joining, coded_block, coder_next, code_answer, code_memory}
use Rattle.link.specs.Decoder.{part_next, decoder_next, delivered, delivery, decode_answer, decode_memory}
use Rattle.link.specs.Rows.{UnusedRows}

module _ (n N m : ℕ) (us ts : List ℕ) (e : take (n - 1) us ≡ take (n - 1) ts) where
  fits : fit (table n N m us) ≡ fit (table n N m ts)
  fits = fit_same n N m us ts e

  start-faults : (k : ℕ) (s : List ℕ) → start_fault (table n N m us) k s ≡ start_fault (table n N m ts) k s
  unfolding start_fault
  start-faults k s = rw fits

  step-faults : (words : ℕ) (malformed : Bool) (bound : ℕ) (s : List ℕ) (b : ℕ)
      → step_fault (table n N m us) words malformed bound s b ≡ step_fault (table n N m ts) words malformed bound s b
  unfolding step_fault
  step-faults words malformed bound s b = rw fits

  coder-faults : (s : List ℕ) (b : ℕ) → coder_fault (table n N m us) s b ≡ coder_fault (table n N m ts) s b
  unfolding coder_fault
  coder-faults s b = step-faults (1 + m) _ _ s b

  joins : (s : List ℕ) (b : ℕ) → coder_joining (table n N m us) s b ≡ coder_joining (table n N m ts) s b
  unfolding coder_joining
  joins s b = rw e

  blocks : (s : List ℕ) (b : ℕ) → coded_block (table n N m us) s b ≡ coded_block (table n N m ts) s b
  unfolding coded_block
  blocks s b = rw (joins s b)

  coder-nexts : (s : List ℕ) (b : ℕ) → coder_next (table n N m us) s b ≡ coder_next (table n N m ts) s b
  unfolding coder_next
  coder-nexts s b = rw (joins s b)

  decoder-faults : (s : List ℕ) (b : ℕ) → decoder_fault (table n N m us) s b ≡ decoder_fault (table n N m ts) s b
  unfolding decoder_fault
  decoder-faults s b = step-faults _ _ _ s b

  parts : (s : List ℕ) (b : ℕ) → part_next (table n N m us) s b ≡ part_next (table n N m ts) s b
  unfolding part_next
  parts s b = rw e

  decoder-nexts : (s : List ℕ) (b : ℕ) → decoder_next (table n N m us) s b ≡ decoder_next (table n N m ts) s b
  unfolding decoder_next
  decoder-nexts s b = rw (parts s b)

  records : (s : List ℕ) (b : ℕ) → delivered (table n N m us) s b ≡ delivered (table n N m ts) s b
  unfolding delivered
  records s b = rw e

  deliveries : (s : List ℕ) (b : ℕ) → delivery (table n N m us) s b ≡ delivery (table n N m ts) s b
  unfolding delivery
  deliveries s b = rw (records s b)

  same : (words : ℕ) (s : List ℕ) (b : ℕ)
      → ((start_answer (table n N m us) words s ≡ start_answer (table n N m ts) words s)
      × (start_memory (table n N m us) words s ≡ start_memory (table n N m ts) words s))
      × ((code_answer (table n N m us) s b ≡ code_answer (table n N m ts) s b)
      × (code_memory (table n N m us) s b ≡ code_memory (table n N m ts) s b))
      × ((decode_answer (table n N m us) s b ≡ decode_answer (table n N m ts) s b)
      × (decode_memory (table n N m us) s b ≡ decode_memory (table n N m ts) s b))
  unfolding start_answer start_memory code_answer code_memory decode_answer decode_memory
  same words s b = (
    (rw (start-faults words s), rw (start-faults words s)),
    (rw (coder-faults s b, blocks s b), rw (coder-faults s b, coder-nexts s b)),
    (rw (decoder-faults s b, deliveries s b), rw (decoder-faults s b, decoder-nexts s b)),
  )

pub unused-rows : UnusedRows
unused-rows u t h words s b =
    subst
    (λ (v : Table). ((start_answer v words s ≡ start_answer t words s) × (start_memory v words s ≡ start_memory t words s))
    × ((code_answer v s b ≡ code_answer t s b) × (code_memory v s b ≡ code_memory t s b))
    × ((decode_answer v s b ≡ decode_answer t s b) × (decode_memory v s b ≡ decode_memory t s b)))
    (sizes-are u t h)
    (same t.symbols t.span t.depth u.rows t.rows h.rows words s b)
