-- Recovery of these stations: 30 right blocks settle the decoder on errors alone, whatever the memories were, and past
-- 21 each delivers zero. Assumes nothing.
use mathlib.Core.Path.{◌≡◌, ap, ◌∙◌}
use Prim.Native.Nat.{ℕ, zero, suc, ◌*◌, ◌≤◌, ◌<◌}
use mathlib.Core.List.{List}
use native.Mathlib.Decide.{dec_lt}
use native.Mathlib.Omega.{arith}
use lib.ListN.{length}
use Rattle.span.specs.Word.{◌⊕◌}
use Rattle.span.proofs.Word.{xor_self}
use Rattle.link.proofs.Bursts.{bursts-separated}
use Rattle.iwadare.specs.Runs.{Sent, Taken, sent_by, taken_by}
use Rattle.iwadare.specs.Taps.{block_sent}
use Rattle.iwadare.specs.Correction.{WrongBit}
use Rattle.iwadare.specs.Recovery.{RightFirst, IwadareRecovery, IwadareGuardEnd}
use Rattle.iwadare.proofs.Errors.{errors, error_memory, error_next, errors_in, errors_past, first_formed}
use Rattle.iwadare.proofs.Guard.{guard_delivers, guarded}
use Rattle.iwadare.proofs.Correction.{linked, right_at, right_from}

module _ (coder decoder bs rs : List ℕ) where
  abbrev sent : List Sent
  sent = sent_by coder bs

  abbrev taken : List Taken
  taken = taken_by decoder rs

  -- right blocks are error blocks of zero
  module _ (enough : length taken ≤ length sent) (many : ℕ) (right : RightFirst many sent taken) where
    still : (p : ℕ) → p < many → errors (linked coder decoder bs rs enough) p ≡ 0
    still p h = go (dec_lt p (length taken))
      where
        go : Dec (p < length taken) → errors (linked coder decoder bs rs enough) p ≡ 0
        go (yes l) =
            errors_in (linked coder decoder bs rs enough) p l
            ∙ ap (λ (x : ℕ). x ⊕ block_sent sent p) (right (suc p) (omega arith) (omega arith) (omega arith))
            ∙ xor_self (block_sent sent p)
        go (no l) = errors_past (linked coder decoder bs rs enough) p (omega arith)

pub recovery : IwadareRecovery
recovery coder decoder bs rs enough right bursts p after inside =
    let apart = bursts-separated (WrongBit (sent_by coder bs) (taken_by decoder rs)) 10 56
    (3 * length (taken_by decoder rs)) bursts in
    let l = linked coder decoder bs rs enough in
    let f = first_formed l (omega arith) in
    right_from coder decoder bs rs enough apart 30
    (guarded (error_memory l) (errors l) (error_next l) 30 (still coder decoder bs rs enough 30 right) f.size f.fill
    f.pending f.terms (omega arith))
    p after (omega arith) inside

pub guard_end : IwadareGuardEnd
guard_end coder decoder bs rs enough zero after inside right = absurd (omega arith)
guard_end coder decoder bs rs enough (suc p) after inside right =
    let l = linked coder decoder bs rs enough in
    let f = first_formed l (omega arith) in
    right_at coder decoder bs rs enough p (omega arith) (omega arith)
    (guard_delivers (error_memory l) (errors l) (error_next l) (suc p) (still coder decoder bs rs enough (suc p) right)
    f.size f.fill f.pending f.terms p (omega arith) (omega arith))
