-- A loader in front of all events.
use Rattle.std.proofs.Common.{suc, zero, List, [], refl, sym, subst, arith}
use Rattle.pyx_core.specs.Nesting.{start}
use Rattle.doc_tree.specs.Table.{Contents, AllLive, root_alone}
use Rattle.doc_tree.specs.Scope.{Decl}
use Rattle.name_scopes.specs.Fragments.{PieceInScope}
use Rattle.name_scopes.specs.DocFaults.{begin}
use Rattle.name_scopes.specs.declared.build.Loader.{Loader}
use Rattle.name_scopes.specs.inner.Build.{Builds, IsNew, Loads}

root-scoped : (around : List Decl) → PieceInScope around root_alone.nodes
root-scoped around zero = tt
root-scoped around (suc n) = tt

pub root-builds : (around : List Decl) → Builds around [] start begin root_alone.nodes 0
root-builds around = record {
  told = [];
  tells = record {
    lines_are = refl;
    all_live = all_live;
    last = refl;
    way = record { number = refl; content = refl; no_parent = refl };
    top = record { elements = refl; no_text = refl };
    numbered_so = refl;
    little = omega arith;
  };
  told_is = refl;
  inside = λ some. absurd (some refl);
  behind_is = refl;
  scoped = root-scoped around;
  count = refl;
}
  where
    all_live : AllLive root_alone.nodes
    all_live zero h = refl
    all_live (suc n) h = absurd (omega arith)

pub loads-none : (loader : Loader) → IsNew loader → Loads [] start begin loader
loads-none loader new = record {
  builds = subst (λ (t : Contents). Builds [] [] start begin t.nodes loader.place) (sym new.tree_is) (subst (Builds [] [] start begin root_alone.nodes) (sym new.place_is) (root-builds []));
  scope_is = new.scope_is;
}
