-- One rank more in a team.
use Rattle.std.proofs.Common.{◌≡◌, ℕ, ◌<◌, ◌≤◌, List, [], ◌∷◌, ◌++◌, length, slice_index_or, refl, sym, ◌∙◌, ap, subst, arith, length-append}
use Rattle.chip_run.proofs.CrewGrowth.{each_more}
use Rattle.coll_more.specs.Standing.{IsFit}
use Rattle.coll_more.specs.Tables.{dst_len_of, src_len_of}
use Rattle.coll_more.specs.declared.kinds.More.{More}
use Rattle.coll_run.specs.Teams.{AreFreshMembers, HasJoined, IsFreshMember, MemberView}

-- what holds of each of a team, and of one rank more, holds of each of both
pub each_joined : (P : ℕ → MemberView → Type 0) (xs : List MemberView) (x : MemberView) → ((k : ℕ) (d : MemberView) → k < length xs → P k (slice_index_or xs k d)) → P (length xs) x
    → (k : ℕ) (d : MemberView) → k < length (xs ++ x ∷ []) → P k (slice_index_or (xs ++ x ∷ []) k d)
each_joined P xs x each one k d low = let long = length-append xs (x ∷ []) in each_more P (length xs) xs x refl each one k d (omega (arith, low, long))

pub joined : (more : More) (len nue : ℕ) (team later : List MemberView) (m : MemberView) (src dst : List ℕ) (rank : ℕ) → AreFreshMembers more len nue team → rank ≡ length team → later ≡ team ++ m ∷ [] → IsFreshMember more len m
    → len ≤ 1024 → m.src ≡ src → m.dst ≡ dst → length src ≡ src_len_of more (length team) nue len → length dst ≡ dst_len_of more rank nue len → HasJoined more len nue team src later
joined more len nue team later m src dst rank are place is fresh short src_is dst_is src_long dst_long = record {
  fresh = subst (AreFreshMembers more len nue) (sym is) (record {
    fresh = each_joined (λ k x. IsFreshMember more len x) team m are.fresh fresh;
    fits = each_joined (λ k x. IsFit more k nue len x.src x.dst) team m are.fits (record {
      short = short;
      src_is = ap length src_is ∙ src_long;
      dst_is = ap length dst_is ∙ dst_long ∙ ap (λ (r : ℕ). dst_len_of more r nue len) place;
    });
  });
  joined = m;
  is = is;
  src_is = src_is;
}
