pub mod OnListsLaws
