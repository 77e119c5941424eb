-- The arena in which a session reads a line may go to another thread: neither its chunks nor its counts name a thread.
-- The arena is bumpalo's, which doesn't say so of itself.
use Rattle.std.specs.Prelude.{ℕ, zero, suc, ◌+◌, ◌-◌, ◌%◌, ◌==◌, Bool, true, false}
use mir.Syntax.{Ty, Width, w8, w16, w32, w64, ty_int}
use base.Fml.{Fml, Share, fsep, froom}
use base.Growing.{Order, latest}
use base.Shift.{Keyless}
use denote.RawPtr.{Ptr, block_ptr, null_ptr, room_for}
use denote.Param.Send.{IsSend, owning_send, sendable}
use Rattle.std.proofs.Crossing as heap
use Rattle.std_heap.specs.contracts.Global as Heap
use Rattle.std_heap.specs.contracts.GlobalAllocator.TheImpl.{ghosts}
use Rattle.bumpalo.specs.Ownership.{Epoch, Place, Footer, chunk, chunks, listed, arena, returns}
use Rattle.bumpalo.specs.Spare.{either, level, by_16, by_8, by_4, by_2, spare}
use Rattle.bumpalo.specs.contracts.bump.Bump as Bump
use Rattle.bumpalo.specs.contracts.current.Current as Current
use Rattle.bumpalo.specs.contracts.current.Current.TheInside as Inside
use Rattle.bumpalo.specs.contracts.loan.Life as Life

latest-keyless : {X : Type 0} (O : Order X) (q : Share) (g : ℕ) (x : X) → Keyless (latest O q g x)
unfolding latest
latest-keyless O q g x = tt

module _ (b o : ℕ) where
  either-keyless : (y : Bool) (P Q : Fml) → Keyless P → Keyless Q → Keyless (either y P Q)
  either-keyless true P Q p q = p
  either-keyless false P Q p q = q

  level-keyless : (w : Width) (n : ℕ) (wider : ℕ → Fml) → ((x : ℕ) → Keyless (wider x)) → (x : ℕ) → Keyless (level b o w n wider x)
  level-keyless w n wider k x = either-keyless (x % (n + n) == 0) (wider x) (fsep (wider (x - n)) (froom (ty_int w) b (o + (x - n)))) (k x) (k (x - n), tt)

  by_16-keyless : (x : ℕ) → Keyless (by_16 b o x)
  unfolding by_16
  by_16-keyless x = tt

  by_8-keyless : (x : ℕ) → Keyless (by_8 b o x)
  unfolding by_8
  by_8-keyless = level-keyless w64 8 (by_16 b o) by_16-keyless

  by_4-keyless : (x : ℕ) → Keyless (by_4 b o x)
  unfolding by_4
  by_4-keyless = level-keyless w32 4 (by_8 b o) by_8-keyless

  by_2-keyless : (x : ℕ) → Keyless (by_2 b o x)
  unfolding by_2
  by_2-keyless = level-keyless w16 2 (by_4 b o) by_4-keyless

  spare-keyless : (x : ℕ) → Keyless (spare b o x)
  unfolding spare
  spare-keyless = level-keyless w8 1 (by_2 b o) by_2-keyless

room : (τ : Ty) (p : Ptr) → Keyless (room_for τ p)
room τ (block_ptr b o) = tt
room τ null_ptr = tt

module _ (t : Ty → Ptr → Fml) (free : (τ : Ty) (p : Ptr) → Keyless (t τ p)) where
  returns-keyless : (a : ℕ) (c : Place) (n : ℕ) → Keyless (returns t a c n)
  returns-keyless a c n = ((tt, tt), (spare-keyless c.0 c.1 n, free _ _))

  chunk-keyless : (a : ℕ) (f : Footer) → Keyless (chunk t a f)
  chunk-keyless a f = (tt, (spare-keyless f.chunk.0 f.chunk.1 f.ptr, returns-keyless a f.chunk f.capacity))

  chunks-keyless : (a n : ℕ) (p : Ptr) → Keyless (chunks t a n p)
  chunks-keyless a zero p = tt
  chunks-keyless a (suc n) p = λ f _. (chunk-keyless a f, chunks-keyless a n f.prev)

  listed-keyless : (e : Epoch) (n : ℕ) (p : Ptr) → Keyless (listed t e n p)
  listed-keyless e zero p = latest-keyless _ _ _ _
  listed-keyless e (suc n) p = λ s _. (latest-keyless _ _ _ _, (chunk-keyless e.life s.0, chunks-keyless e.life n s.0.prev))

  arena-keyless : (e : Epoch) (p : Ptr) (n live : ℕ) → Keyless (arena t e p n live)
  arena-keyless e p n live = (((λ _ _. (tt, tt)), tt), listed-keyless e n p)

Life-send : IsSend Life.the_row
Life-send = owning_send Life.the_type tt (λ d. tt) (λ k x w. tt)

Inside-send : IsSend (Inside.the_row Heap.the_row ghosts)
Inside-send = search sendable depth 20

Current-send : IsSend (Current.the_row Heap.the_row ghosts)
Current-send = record {
  owned = λ x vs. ((λ _. tt), λ i. (Inside-send.owned i vs, arena-keyless (ghosts.dealloc_token x.1) (heap.frees.frees x.1) x.0 i.footer i.chunks i.live));
  leaving = λ k x w. tt;
}

pub Bump-send : IsSend (Bump.the_row Heap.the_row ghosts)
Bump-send = search (sendable, heap.crosses, heap.send, Current-send, Life-send) depth 30
