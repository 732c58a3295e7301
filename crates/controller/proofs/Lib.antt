pub mod ExportsLaws
