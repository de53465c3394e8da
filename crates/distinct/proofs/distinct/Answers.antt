use Rattle.base.{specs.Base.{ℕ, List, ◌<◌, ◌≡◌, get_or, length}, proofs.Laws.{sym, ◌∙◌, arith, not_both}}
use Rattle.distinct.proofs.{Apart.{is_key_lem, no_key, apart_none, apart_past, distinct_all, distinct_not}, Filled.{Filled, fill_none, fill_past, fill_key, chain, chain_finds}}
use Rattle.distinct.specs.Buckets.{held, bucket_of, found, Chain}
use Rattle.distinct.proofs.distinct.Goals as goal
use Rattle.distinct.proofs.distinct.Goals.{then-key-ne0+else-in_chain, else-key-ne0}

-- what is known of the key at place i where its chain is walked: the chain, and what is found along it
walked : (keys : List ℕ) {head next : List ℕ} (i : ℕ) {b : ℕ} → Filled keys head next i → i < length keys → i < held → (get_or keys i 0 ≡ 0 → ⊥) → b ≡ bucket_of (get_or keys i 0)
    → Chain keys next (get_or head b 0) (get_or keys i 0) × (found keys (get_or keys i 0) (get_or head b 0) ≡ found keys (get_or keys i 0) i)
walked keys i f a h d e =
    let key = get_or keys i 0 in
    let u = is_key_lem key d in
    rw e (chain f key u (omega arith) (omega arith), chain_finds f key u)

pub slice_bounds-in_chain-end : goal.slice_bounds-in_chain-end
slice_bounds-in_chain-end c = sym c.loop-i.invariant.0.next_size

pub returns-then-in_chain : goal.returns-then-in_chain
returns-then-in_chain c =
    let keys = c.args.keys.now in
    let key = get_or keys c.loop-i.i 0 in
    let some : key ≡ 0 → ⊥ = λ e. let z : ⊥ = omega arith in z in
    let q = walked keys c.loop-i.i c.loop-i.invariant.0 (omega arith) (omega arith) some c.bucket-b.ensures.0 in
    sym
    (distinct_not keys c.loop-i.i (omega arith) (is_key_lem key some)
    (sym q.1 ∙ sym (c.in_chain.ensures q.0) ∙ c.if-in_chain.true))

pub loop-i-preserved : goal.loop-i-preserved
loop-i-preserved c =
    let keys = c.args.keys.now in
    let key = get_or keys c.loop-i.i 0 in
    elim c.if-key-ne0.branch [
      | then-key-ne0+else-in_chain w ↦
          let u = is_key_lem key w.if-key-ne0.true in
          let q = walked keys c.loop-i.i c.loop-i.invariant.0 (omega arith) (omega arith) w.if-key-ne0.true w.bucket-b.ensures.0 in (
            rw (w.head-is, w.next-is, w.bucket-b.ensures.0) (fill_key c.loop-i.invariant.0 u (omega arith)),
            apart_past keys c.loop-i.i c.loop-i.invariant.1 (λ _. sym q.1 ∙ sym (w.in_chain.ensures q.0) ∙ w.if-in_chain.false),
          )
      | else-key-ne0 w ↦
          let n = no_key key w.if-key-ne0.false in
          (rw (w.head-is, w.next-is) (fill_past c.loop-i.invariant.0 n), apart_past keys c.loop-i.i c.loop-i.invariant.1 (λ u. absurd (not_both u n)))
    ]

pub returns : goal.returns
returns c =
    let l = c in
    sym (distinct_all l.args.keys.now l.loop-i.i c.loop-i-test.false l.loop-i.invariant.1)

pub loop-i-init : goal.loop-i-init
loop-i-init c = (fill_none _, apart_none _)

pub overflow_cast-first : goal.overflow_cast-first
overflow_cast-first c = let keys = c.args.keys.now in omega (arith, (walked keys c.loop-i.i c.loop-i.invariant.0 (omega arith) (omega arith) c.if-key-ne0.true c.bucket-b.ensures.0).0.in_next, c.loop-i.invariant.0.next_size)
